pub mod KeyEquality

pub mod Bytes
pub mod Tree
pub mod Fails
pub mod MemoryTree
pub mod Path
pub mod Views

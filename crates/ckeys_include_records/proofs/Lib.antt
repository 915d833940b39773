pub mod KeyOrder
pub mod SmallRecords
pub mod Insertion
pub mod WholeRecords
pub mod Looking
pub mod Greatest
pub mod Listed
mod Alike
mod PairParts

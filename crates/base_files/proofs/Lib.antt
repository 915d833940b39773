pub mod MemoryLookups
pub mod PieceLaws
pub mod PathOrder

pub mod Snapshots
pub mod Known

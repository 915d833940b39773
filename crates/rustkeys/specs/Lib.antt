pub mod Questions
pub mod Records
pub mod Calls
pub mod Collected
pub mod Fresh
pub mod Hashers
pub mod Runs

pub mod Budgets
pub mod Builds
pub mod Caps
pub mod Steps
pub mod Misses
pub mod RecordedKeys

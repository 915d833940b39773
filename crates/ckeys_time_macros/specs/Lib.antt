pub mod Macros
pub mod Seen
pub mod Moments
pub mod Days

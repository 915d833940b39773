pub mod SameAsked
pub mod Recorded

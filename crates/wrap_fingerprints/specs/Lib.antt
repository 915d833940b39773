pub mod Fingerprints
pub mod Telling
pub mod Explaining

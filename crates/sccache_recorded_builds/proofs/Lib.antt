pub mod Summed
pub mod Tallied
pub mod Texts
pub mod Utf8Laws

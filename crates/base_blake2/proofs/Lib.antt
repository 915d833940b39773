pub mod Words
pub mod Absorbing
pub mod Vectors

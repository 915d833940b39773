pub mod Worlds
pub mod Kept
pub mod Beside
pub mod Tokens

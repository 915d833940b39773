pub mod Compiler
pub mod Causes

pub mod DepInfo
pub mod EnvDeps
pub mod Rewriting
pub mod Variables
pub mod Outputs
pub mod Places
pub mod Words

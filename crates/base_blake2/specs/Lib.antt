pub mod Blake2b
pub mod Hashers
pub mod DigestBytes

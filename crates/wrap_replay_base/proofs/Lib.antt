mod Answering
pub mod AskedAlike

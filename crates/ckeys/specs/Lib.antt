pub mod Calls
pub mod Compilers
pub mod Hashers
pub mod Surroundings
pub mod Entries
pub mod EntryTurns
pub mod HashCalls

pub mod AgreeLemmas
pub mod EqualLemmas
pub mod TellLemmas
pub mod RecordLemmas

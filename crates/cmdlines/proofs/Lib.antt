pub mod CollectLemmas
pub mod InputLemmas
pub mod CommandLemmas
pub mod LanguageLemmas

pub mod CutLemmas
pub mod PrintedLemmas
pub mod SetLemmas
pub mod CrateTypeLemmas
pub mod OneOrder

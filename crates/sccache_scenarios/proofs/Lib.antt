mod SourceLemmas
mod CrateLemmas
mod OutcomeLemmas
mod RunLemmas

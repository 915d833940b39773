pub mod SortLemmas
pub mod TextLemmas
pub mod CauseLemmas
pub mod ArchiveLemmas
pub mod KeyLemmas
mod RuleLemmas
pub mod RunLemmas

pub mod MaterialLemmas
pub mod FeedLemmas
pub mod KeyLemmas
pub mod FolderLemmas
pub mod CauseLemmas
pub mod WordEnds
pub mod FaultLemmas

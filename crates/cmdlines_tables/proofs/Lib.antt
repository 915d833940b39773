pub mod OwnWordLemmas
pub mod TableTests
pub mod PlaceLemmas
pub mod ArchLemmas

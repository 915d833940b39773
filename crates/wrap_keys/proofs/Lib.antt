pub mod KeyLemmas
pub mod Utf8Lemmas
pub mod JudgeLemmas
pub mod RunLemmas
pub mod RustTexts
pub mod SizeLemmas
pub mod Gathered
pub mod ByPlaces

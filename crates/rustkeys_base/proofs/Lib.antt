pub mod StayLaws
pub mod TextLaws
pub mod CauseLemmas
pub mod FactLemmas
pub mod ItemLemmas
pub mod ParsingLemmas
pub mod DeciderLaws
mod HeldWords
pub mod AskLemmas
pub mod AskedLemmas

pub mod CallLemmas
pub mod RecordLemmas
pub mod AskLemmas
pub mod EntryLemmas
pub mod HashSteps

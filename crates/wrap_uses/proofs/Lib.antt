pub mod BuildLemmas
pub mod StepLemmas
pub mod MissLemmas

pub mod Beware
pub mod Outcomes
pub mod Reasons
pub mod Summaries
pub mod Tallies
pub mod Verdicts

pub mod Holding
pub mod Seams
pub mod DayLemmas
pub mod MomentOrder
pub mod Showing
pub mod UtcRule

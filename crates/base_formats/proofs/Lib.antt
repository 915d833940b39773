pub mod RepeatedReads
pub mod FramedParts
pub mod Texts
pub mod Fronts
pub mod PartsInRow

pub mod EachOnce
pub mod FirstLines
pub mod JoinedPieces
pub mod MoreLines
pub mod MetadataLaws
pub mod NameLaws
pub mod WordLaws
mod ToldNames
mod LastPlaces
mod InPlace

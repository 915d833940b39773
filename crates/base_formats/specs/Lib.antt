pub mod Spelling
pub mod Reading
pub mod Formats
pub mod FieldFormats
pub mod Choices

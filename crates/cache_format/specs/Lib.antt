pub mod Sealed
pub mod Layout
pub mod ResultFormats
pub mod KeptManifests
pub mod KeptParts
pub mod KeptCrates

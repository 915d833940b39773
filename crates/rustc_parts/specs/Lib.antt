pub mod Material
pub mod Shapes
pub mod Orders
pub mod Formed
pub mod Reading

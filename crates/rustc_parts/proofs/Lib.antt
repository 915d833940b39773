pub mod RowReads
pub mod PieceFormats
pub mod WholeKeys
pub mod OneOrder

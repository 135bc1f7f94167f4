pub mod Parts
pub mod Pieces
pub mod Whole
pub mod Words

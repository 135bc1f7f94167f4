-- What serves contracts inside the crate alone.
pub mod Cut
pub mod Lent
pub mod Pieces
pub mod TargetWords
pub mod Words

-- What contracts inside the crate alone cite.
pub mod Kept
pub mod Lent
pub mod Others

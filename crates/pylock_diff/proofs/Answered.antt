-- Where a lock stays the same, what is installed of it does.
pub mod Edits
pub mod Law
pub mod Moves
pub mod Plain
pub mod Steps

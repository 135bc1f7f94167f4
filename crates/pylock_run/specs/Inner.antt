-- What serves the contracts of private functions alone.
pub mod Editing
pub mod Writes
pub mod Faults
pub mod Edited
pub mod FileLine
pub mod Fields
pub mod Pieces

pub mod Counts
pub mod Firsts
pub mod Listing
pub mod Lowering
pub mod Pieces

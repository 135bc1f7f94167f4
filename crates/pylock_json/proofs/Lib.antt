pub mod Floats
pub mod Rows

pub mod Parts
pub mod Printable

pub mod Inputs
pub mod TrailingZeros

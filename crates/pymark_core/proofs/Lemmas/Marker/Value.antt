pub mod Agreement
pub mod Refusals
pub mod Substrings
pub mod Turns
pub mod Versions
pub mod WithoutExtra

pub mod Coherent
pub mod Literals
pub mod Names
pub mod Platforms
pub mod Questions
pub mod Refuted
pub mod Specifiers

pub mod Described
pub mod Names

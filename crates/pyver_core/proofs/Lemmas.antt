pub mod Name
pub mod Parsed
pub mod Set
pub mod Version

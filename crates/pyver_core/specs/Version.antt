-- Versions (PEP 440, "Version scheme").
pub mod FromParts
pub mod Grammar
pub mod Hashing
pub mod Normal
pub mod Order
pub mod OrderKey
pub mod OrderLaws
pub mod Parts
pub mod Reading

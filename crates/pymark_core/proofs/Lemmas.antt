pub mod Building
pub mod Environment
pub mod Marker
pub mod Memory
pub mod Requirement

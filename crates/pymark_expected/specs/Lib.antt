pub mod Kinds
pub mod Marker
pub mod Requirement
pub mod Stretch

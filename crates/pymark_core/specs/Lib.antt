pub mod Change
pub mod Environment
pub mod Inner
pub mod Marker
pub mod Requirement
pub mod Variables

pub mod Boundaries
pub mod Complete
pub mod Operators
pub mod SoFar
pub mod Sound

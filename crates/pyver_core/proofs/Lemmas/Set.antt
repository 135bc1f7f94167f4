pub mod Admission
pub mod Equality
pub mod NormalOperand
pub mod Reading

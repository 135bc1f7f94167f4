-- What serves the contracts of private functions alone.
pub mod Answer
pub mod Audit
pub mod Check
pub mod CheckMatrix
pub mod Chosen
pub mod Files
pub mod Located
pub mod Machine

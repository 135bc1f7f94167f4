pub mod Code
pub mod HiddenValue
pub mod Inner
pub mod Proper
pub mod Scalar
pub mod Shown
pub mod Text

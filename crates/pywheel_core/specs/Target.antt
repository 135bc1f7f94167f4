-- A target: an environment without its machine.
pub mod Compatible
pub mod Grammar
pub mod Names
pub mod Newer
pub mod Order
pub mod Platforms
pub mod Reading
pub mod Tags
pub mod Value

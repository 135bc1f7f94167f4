pub mod Following
pub mod Place

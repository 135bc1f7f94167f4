pub mod Place
pub mod Places
pub mod Path
pub mod Inner

pub mod Session
pub mod Inner
pub mod Words

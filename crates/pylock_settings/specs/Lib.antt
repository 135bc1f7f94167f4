pub mod Key
pub mod Settings
pub mod Reading
pub mod Words
pub mod Inner

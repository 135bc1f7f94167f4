pub mod Dependencies
pub mod Inner
pub mod Lock
pub mod Meets
pub mod Metadata
pub mod Named
pub mod Table
pub mod View

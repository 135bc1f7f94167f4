pub mod Text
pub mod Entry
pub mod Lock
pub mod Environment
pub mod Input
pub mod Inner
pub mod Target

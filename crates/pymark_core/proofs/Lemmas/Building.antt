pub mod Kept
pub mod Notes
pub mod Steps

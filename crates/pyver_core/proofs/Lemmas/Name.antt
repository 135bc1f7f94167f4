pub mod Collapse
pub mod Normal
pub mod Runs

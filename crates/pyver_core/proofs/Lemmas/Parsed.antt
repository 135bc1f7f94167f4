pub mod NeverMemory
pub mod Outcomes

-- What a session keeps of its entries.
pub mod Conditions
pub mod Index
pub mod Names
pub mod Capacity
pub mod Rows
pub mod TagSets

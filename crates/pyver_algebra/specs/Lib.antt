pub mod FirstTwo
pub mod Firsts
pub mod Limits
pub mod Plain
pub mod Sets
pub mod Steps

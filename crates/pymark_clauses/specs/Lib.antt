pub mod Clauses
pub mod Groups

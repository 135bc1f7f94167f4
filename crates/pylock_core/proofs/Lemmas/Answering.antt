-- The answer of a session, and what becomes of each entry.
pub mod Fates
pub mod Steps

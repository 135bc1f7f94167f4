-- The edits of a session.
pub mod Entries
pub mod Policies
pub mod InTurn

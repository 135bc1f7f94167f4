-- A session: its state and its edits, the installation steps on it, and what of them is kept.
pub mod Fates
pub mod Judgement
pub mod Names
pub mod Picks
pub mod State
pub mod Steps

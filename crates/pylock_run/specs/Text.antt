-- The printed text of an answer and of a refusal.
pub mod Field
pub mod Plan
pub mod Refusal

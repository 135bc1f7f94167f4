-- The printed text, beside the lines of an answer and of a refusal.
pub mod Audit
pub mod Diff
pub mod Explain
pub mod Files
pub mod Json
pub mod Safe
pub mod Summary

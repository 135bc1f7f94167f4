pub mod Fact
pub mod Kind
pub mod Summary
pub mod Document

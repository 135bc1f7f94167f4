pub mod Documents
pub mod Environment
pub mod Safe
pub mod Source
pub mod Texts
pub mod Reasons
pub mod Written

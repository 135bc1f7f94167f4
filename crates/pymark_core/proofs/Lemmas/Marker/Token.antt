pub mod First
pub mod Tokens

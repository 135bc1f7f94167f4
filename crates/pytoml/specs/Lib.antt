pub mod Text
pub mod Inner
pub mod Draft
pub mod Members
pub mod Elements
pub mod Outline
pub mod Inline

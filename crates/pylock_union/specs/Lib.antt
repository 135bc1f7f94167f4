pub mod Answer
pub mod Document
pub mod Inner
pub mod Listed
pub mod Text
pub mod Union

pub mod Rule
pub mod Uri
pub mod Document

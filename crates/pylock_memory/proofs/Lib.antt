pub mod PartsLemmas
pub mod TextLemmas

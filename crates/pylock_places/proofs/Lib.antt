pub mod TextLemmas
pub mod UserLemmas

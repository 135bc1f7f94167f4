pub mod CodeLemmas
pub mod NumberLemmas
pub mod ScalarLemmas
pub mod ShownLemmas
pub mod WordLemmas

pub mod PlanOptionLemmas
pub mod BaseLemmas
pub mod ClapLemmas
pub mod InputLemmas
pub mod NamedLemmas

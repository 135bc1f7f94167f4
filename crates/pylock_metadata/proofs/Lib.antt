pub mod DependencyLemmas
pub mod DescribedLemmas
pub mod MeetsLemmas
pub mod NumberLemmas
pub mod TextLemmas

pub mod IndexLemmas
pub mod LeastLemmas
pub mod NeverMemory
pub mod OrderLemmas
pub mod PrefixLemmas
pub mod RangeLemmas
pub mod StepLemmas
pub mod TextLemmas

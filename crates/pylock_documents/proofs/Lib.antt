pub mod JsonLemmas
pub mod RefusalLemmas
pub mod SafeLemmas
pub mod SpellLemmas
pub mod ReadLemmas
pub mod PlainLemmas
pub mod EnvironmentLemmas

pub mod ClauseLemmas
pub mod GroupLemmas
pub mod ValueLemmas

pub mod NewestLemmas

pub mod AllLemmas
pub mod LineLemmas
pub mod MergingLemmas

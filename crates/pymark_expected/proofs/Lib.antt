pub mod CutLemmas
pub mod KindLemmas
pub mod PlaceLemmas
pub mod StretchLemmas

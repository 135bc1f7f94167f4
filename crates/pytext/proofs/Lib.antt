pub mod BoundaryLemmas
pub mod BytesLemmas
pub mod DigitsLemmas
pub mod IteratorLemmas
pub mod NeverLemmas
pub mod OptionsLemmas
pub mod ResultsLemmas
pub mod WhiteLemmas

pub mod AskingLemmas
pub mod LawLemmas
pub mod ReleaseLemmas
pub mod RowLemmas
pub mod StandingLemmas
pub mod WantedLemmas

pub mod AlgebraLemmas
pub mod EnvironmentLemmas
pub mod ExpectedLemmas
pub mod OpeningLemmas
pub mod RecordLemmas
pub mod RunLemmas

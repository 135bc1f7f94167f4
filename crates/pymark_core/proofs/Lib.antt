pub mod BoundaryLemmas
pub mod ChoiceLemmas
pub mod Lemmas
pub use Rattle.pymark_core.proofs.Lemmas.Requirement.Complete.{given_no_requirement}
pub use Rattle.pymark_core.proofs.Lemmas.Requirement.Sound.{given_requirement}

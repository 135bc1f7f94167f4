pub use Rattle.pywheel_core.proofs.Lemmas.Choice.Best.{is_best, best_is_one}
pub use Rattle.pywheel_core.proofs.Lemmas.Tag.Firsts.{firsts, refused}
pub use Rattle.pywheel_core.proofs.TargetLemmas.{fits}
pub mod Lemmas
pub mod MarksLemmas
pub mod NeverMemory
pub mod ReadTableLemmas
pub mod TargetLemmas

pub use Rattle.pylock_readers.proofs.ElementLemmas.{after_is, read_is}
pub use Rattle.pylock_readers.proofs.TableLemmas.{kept}
mod FileNameLemmas
mod TableLemmas
mod PrefixLemmas
pub mod EntryLemmas
pub mod ElementLemmas
mod DistinctLemmas
pub mod Joined
mod TextLemmas
pub mod TargetLemmas
pub mod NeverMemory

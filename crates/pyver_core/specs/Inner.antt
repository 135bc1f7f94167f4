-- What serves private contracts and the laws of traits alone: no public contract rests on its
-- wording.
pub mod VersionDraft
pub mod EqualityLaws
pub mod HashLaws
pub mod Limit
pub mod Names
pub mod Operand
pub mod PartsRef
pub mod Phase
pub mod NormalVersion
pub mod NormalOperand
pub mod Rank
pub mod Releases
pub mod SpecifierDraft
pub mod Tails

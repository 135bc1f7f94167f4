-- What a lock holds (PEP 751). A text is the list of the bytes of its UTF-8.
use Rattle.std.specs.Prelude.{ℕ, List, Option}
use Rattle.pyver_core.specs.declared.set.specifier.Specifier.{Specifier}
use Rattle.pymark_core.specs.Marker.Reading.{MarkerValue}
use Rattle.pylock_readers.specs.Entry.{EntryValue}
pub mod Head
pub mod Packages
pub mod Reading

-- the head: the keys of the lock itself; the names are in normal form and distinct
pub record HeadValue : Type 0 where
  pub environments : List MarkerValue
  pub requires_python : Option (List Specifier)
  pub extras : List (List ℕ)
  pub groups : List (List ℕ)
  pub default_groups : List (List ℕ)

pub record LockValue : Type 0 where
  pub head : HeadValue
  pub entries : List EntryValue

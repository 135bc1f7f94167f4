-- Which names are slated, by their numbers.
use Rattle.std.specs.Prelude.{ℕ, ◌<◌, Bool, false, length, slice_index_or, ⊤}
use Rattle.std.specs.BTreeSet.{contains}
use Rattle.std.specs.Ordering.{nat_cmp}
use Rattle.pylock_core.specs.declared.session.answering.slated_names.SlatedNames.{SlatedNames}
use Rattle.pylock_core.specs.declared.session.answering.slated_names.SlatedNames.TheVariants as by

-- whether the name of the number is slated
abbrev pub is_slated : SlatedNames → ℕ → Bool
is_slated (by.Stamps stamps) n = slice_index_or stamps.items n false
is_slated (by.Numbers numbers) n = contains nat_cmp numbers n

-- the name of the number can be slated
abbrev pub HasPlace : SlatedNames → ℕ → Type 0
HasPlace (by.Stamps stamps) n = n < length stamps.items
HasPlace (by.Numbers numbers) n = ⊤

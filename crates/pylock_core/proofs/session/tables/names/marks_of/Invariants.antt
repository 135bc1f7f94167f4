use Rattle.std.proofs.Common.{◌≡◌, ℕ, List, Some, false, ◌||◌, drop, slice_index_or, length}
use Rattle.pylock_core.specs.Inner.Tables.Names.{number_named}
use Rattle.pylock_core.specs.Session.State.{is_among}
use Rattle.pylock_core.proofs.session.tables.names.marks_of.Given as goal

-- a name is one of all where it is marked, or is among those that are left
abbrev pub invariant-loop-name : goal.invariant-loop-name
invariant-loop-name l =
    (length l.marks.items ≡ length l.names.policies.items)
    × ((q : List ℕ) (n : ℕ) → number_named l.names q ≡ Some n
    → (slice_index_or l.marks.items n false || is_among (drop l.name-index l.list) q) ≡ is_among l.list q)

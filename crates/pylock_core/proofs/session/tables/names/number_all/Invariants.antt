use Rattle.std.proofs.Common.{ℕ, ◌<◌, [], IsSome, slice_index_or}
use Rattle.pylock_core.specs.Inner.Tables.Names.{Kept, number_named}
use Rattle.pylock_core.proofs.session.tables.names.number_all.Given as goal

-- the names so far have numbers
abbrev pub invariant-loop-name : goal.invariant-loop-name
invariant-loop-name l = record {
  kept : Kept l.initial.names l.names;
  known : (j : ℕ) → j < l.name-index → IsSome (number_named l.names (slice_index_or l.list j []));
}

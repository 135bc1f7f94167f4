use Rattle.std.proofs.Common.{◌≡◌, ◌≤◌, filter, length, take}
use Rattle.pylock_summary.specs.Kind.{has_kind}
use Rattle.pylock_summary.proofs.facts.count_of.Given as goal

-- the entries so far are counted
abbrev pub invariant-loop-entry : goal.invariant-loop-entry
invariant-loop-entry l = record {
  counted : l.count ≡ length (filter (has_kind l.kind) (take l.entry-index l.entries));
  within : l.count ≤ l.entry-index;
}

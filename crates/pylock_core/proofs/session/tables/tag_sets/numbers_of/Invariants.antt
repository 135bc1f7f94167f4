use Rattle.std.proofs.Common.{◌≡◌, ◌<◌, ◌≤◌, ℕ, Some, None, length, get_or}
use Rattle.pylock_core.specs.Inner.Tables.TagSets.{SetsKept, set_number, set_text}
use Rattle.pylock_core.proofs.session.tables.tag_sets.numbers_of.Given as goal

-- the wheels so far have their numbers
abbrev pub invariant-loop-wheel : goal.invariant-loop-wheel
invariant-loop-wheel l = record {
  within : l.wheel-index ≤ length l.wheels;
  long : length l.numbers.items ≡ l.wheel-index;
  each : (k : ℕ) → k < l.wheel-index → set_number l.sets (set_text (get_or l.wheels k None)) ≡ Some (get_or l.numbers.items k 0);
  kept : SetsKept l.fn.sets l.sets;
  lists : l.sets.of_entries ≡ l.fn.sets.of_entries;
}

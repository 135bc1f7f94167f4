use Rattle.std.proofs.Common.{◌≡◌, ◌≤◌, ◌+◌, length}
use Rattle.pyver_core.specs.Version.Normal.{decimal_text}
use Rattle.pylock_values.proofs.versions.before_number.Given as goal

abbrev pub invariant-loop-value : goal.invariant-loop-value
invariant-loop-value l = record {
  sum : l.left + length (decimal_text l.number) ≡ l.end + length (decimal_text l.value);
  enough : length (decimal_text l.value) ≤ l.left;
}

abbrev pub decreases-loop-value : goal.decreases-loop-value
decreases-loop-value l = l.value

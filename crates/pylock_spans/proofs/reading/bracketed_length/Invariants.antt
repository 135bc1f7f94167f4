use Rattle.std.proofs.Common.{◌≤◌, length}
use Rattle.pylock_spans.proofs.reading.bracketed_length.Given as goal

-- no more was read than is there
abbrev pub invariant-loop : goal.invariant-loop
invariant-loop l = l.at ≤ length l.text

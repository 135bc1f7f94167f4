use Rattle.std.proofs.Common.{◌≡◌, ◌++◌, map, take}
use Rattle.std.specs.Prelude.{decimal}
use Rattle.pylock_run.specs.Text.Field.{fields_text}
use Rattle.pylock_c.proofs.sessions.standing.push_more.Given as goal

abbrev pub invariant-loop-number : goal.invariant-loop-number
invariant-loop-number l = l.out.items ≡ l.initial.out.items ++ fields_text (map decimal (take l.number-index l.numbers))

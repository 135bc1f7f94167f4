use Rattle.std.proofs.Common.{◌≡◌, ◌++◌, flat_map}
use Rattle.pylock_program.specs.Text.Safe.{safe_character}
use Rattle.pylock_program.proofs.text.safe.push_safe.Given as goal

abbrev pub invariant-loop-character : goal.invariant-loop-character
invariant-loop-character l = l.out.items ≡ l.fn.out.items ++ flat_map safe_character l.yielded

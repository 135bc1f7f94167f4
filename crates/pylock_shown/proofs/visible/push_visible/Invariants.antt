use Rattle.std.proofs.Common.{◌≡◌, ◌++◌, flat_map}
use Rattle.pylock_shown.specs.Visible.{visible_character}
use Rattle.pylock_shown.proofs.visible.push_visible.Given as goal

abbrev pub invariant-loop-character : goal.invariant-loop-character
invariant-loop-character l = l.out.items ≡ l.fn.out.items ++ flat_map visible_character l.yielded

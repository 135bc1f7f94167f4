use Rattle.std.proofs.Common.{◌≡◌, ◌++◌, flat_map, string_bytes}
use Rattle.pylock_shown.specs.Visible.{visible_character}
use Rattle.pylock_sarif.proofs.document.push_visible.Given as goal

-- the characters so far are in the text
abbrev pub invariant-loop-character : goal.invariant-loop-character
invariant-loop-character l = string_bytes l.out ≡ string_bytes l.fn.out ++ flat_map visible_character l.yielded

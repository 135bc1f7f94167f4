use Rattle.std.proofs.Common.{◌≡◌, ◌++◌, flat_map, string_bytes}
use Rattle.pylock_environments.specs.Detail.{quoted_character}
use Rattle.pylock_environments.proofs.shell.push_between.Given as goal

abbrev pub invariant-loop-character : goal.invariant-loop-character
invariant-loop-character l = string_bytes l.out ≡ string_bytes l.fn.out ++ flat_map quoted_character l.yielded

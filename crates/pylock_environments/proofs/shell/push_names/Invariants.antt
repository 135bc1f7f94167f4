use Rattle.std.proofs.Common.{◌≡◌, ◌++◌, map, string_bytes}
use Rattle.pylock_environments.specs.Detail.{name_words}
use Rattle.pylock_environments.proofs.shell.push_names.Given as goal

abbrev pub invariant-loop-name : goal.invariant-loop-name
invariant-loop-name l = string_bytes l.out ≡ string_bytes l.fn.out ++ name_words l.option (map (λ name. name.now) l.yielded)

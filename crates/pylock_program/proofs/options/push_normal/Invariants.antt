use Rattle.std.proofs.Common.{◌≡◌, ◌++◌, map, string_bytes, take}
use Rattle.pyver_core.specs.Name.{normal_name}
use Rattle.pylock_program.proofs.options.push_normal.Given as goal

abbrev pub invariant-loop-name : goal.invariant-loop-name
invariant-loop-name l = l.normal.items ≡ l.initial.normal.items ++ map normal_name (map string_bytes (take l.name-index l.names))

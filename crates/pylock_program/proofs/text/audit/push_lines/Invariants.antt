use Rattle.std.proofs.Common.{◌≡◌, ◌++◌, take}
use Rattle.std.specs.List.{flat_map}
use Rattle.pylock_program.specs.Text.Audit.{finding_line}
use Rattle.pylock_program.proofs.text.audit.push_lines.Given as goal

abbrev pub invariant-loop-one : goal.invariant-loop-one
invariant-loop-one l = l.out.items ≡ l.initial.out.items ++ flat_map finding_line (take l.one-index l.found)

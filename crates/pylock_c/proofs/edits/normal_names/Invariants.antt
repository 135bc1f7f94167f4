use Rattle.std.proofs.Common.{◌≡◌, map, take}
use Rattle.pyver_core.specs.Name.{normal_name}
use Rattle.pylock_c.proofs.edits.normal_names.Given as goal

abbrev pub invariant-loop-text : goal.invariant-loop-text
invariant-loop-text l = l.names.items ≡ map normal_name (map (λ text. text.now) (take l.text-index l.texts))

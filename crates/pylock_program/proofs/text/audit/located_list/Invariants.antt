use Rattle.std.proofs.Common.{◌≡◌, map, take}
use Rattle.serde_json.specs.View.{view as data_of}
use Rattle.pylock_program.specs.Located.{located_data}
use Rattle.pylock_program.proofs.text.audit.located_list.Given as goal

-- the objects of the findings so far
abbrev pub invariant-loop-one : goal.invariant-loop-one
invariant-loop-one l = map data_of l.list ≡ map located_data (take l.one-index l.located)

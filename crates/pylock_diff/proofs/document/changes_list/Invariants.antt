use Rattle.std.proofs.Common.{◌≡◌, map, take}
use Rattle.serde_json.specs.View.{view as data_of}
use Rattle.pylock_json.specs.Json.{object_of}
use Rattle.pylock_diff.specs.Document.{change_rows}
use Rattle.pylock_diff.proofs.document.changes_list.Given as goal

abbrev pub invariant-loop-change : goal.invariant-loop-change
invariant-loop-change l = map data_of l.list ≡ map (λ change. object_of (change_rows change)) (take l.change-index l.changes)

use Rattle.std.proofs.Common.{◌≡◌, map, take}
use Rattle.serde_json.specs.View.{view as data_of}
use Rattle.pylock_json.specs.Json.{object_of}
use Rattle.pylock_audit.specs.Document.{finding_rows}
use Rattle.pylock_audit.proofs.document.findings_list.Given as goal

-- the findings so far are in the list
abbrev pub invariant-loop-one : goal.invariant-loop-one
invariant-loop-one l = map data_of l.list ≡ map (λ one. object_of (finding_rows one)) (take l.one-index l.found)

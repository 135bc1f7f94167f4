use Rattle.std.proofs.Common.{◌≡◌, map, take}
use Rattle.std.specs.List.{flat_map}
use Rattle.serde_json.specs.View.{view as data_of}
use Rattle.pylock_documents.specs.Documents.{verdict_data}
use Rattle.pylock_documents.proofs.explain.verdicts_list.Given as goal

-- the verdicts so far are in the list
abbrev pub invariant-loop-fate : goal.invariant-loop-fate
invariant-loop-fate l = map data_of l.list ≡ flat_map (verdict_data l.session.state) (take l.fate-index l.fates)

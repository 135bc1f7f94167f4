use Rattle.std.proofs.Common.{◌≡◌, map, take}
use Rattle.serde_json.specs.Data.{string}
use Rattle.serde_json.specs.View.{view as data_of}
use Rattle.pylock_summary.proofs.document.texts_list.Given as goal

-- the texts so far are in the list
abbrev pub invariant-loop-text : goal.invariant-loop-text
invariant-loop-text l = map data_of l.list ≡ map string (take l.text-index l.texts)

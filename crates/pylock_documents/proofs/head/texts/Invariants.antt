use Rattle.std.proofs.Common.{◌≡◌, map, string_bytes, take}
use Rattle.serde_json.specs.Data.{string}
use Rattle.serde_json.specs.View.{view as data_of}
use Rattle.pylock_documents.proofs.head.texts.Given as goal

-- the texts so far are in the list
abbrev pub invariant-loop-text : goal.invariant-loop-text
invariant-loop-text l = map data_of l.list ≡ map string (map string_bytes (take l.text-index l.texts))

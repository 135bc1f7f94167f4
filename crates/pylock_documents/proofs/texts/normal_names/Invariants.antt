use Rattle.std.proofs.Common.{◌≡◌, map, string_bytes, take}
use Rattle.serde_json.specs.Data.{string}
use Rattle.serde_json.specs.View.{view as data_of}
use Rattle.pyver_core.specs.Name.{normal_name}
use Rattle.pylock_documents.proofs.texts.normal_names.Given as goal

-- the normal forms so far are in the list
abbrev pub invariant-loop-name : goal.invariant-loop-name
invariant-loop-name l = map data_of l.list ≡ map string (map normal_name (map string_bytes (take l.name-index l.names)))

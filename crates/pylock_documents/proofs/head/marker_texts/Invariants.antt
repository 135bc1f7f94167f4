use Rattle.std.proofs.Common.{◌≡◌, map, take}
use Rattle.serde_json.specs.Data.{string}
use Rattle.serde_json.specs.View.{view as data_of}
use Rattle.pylock_documents.proofs.head.marker_texts.Given as goal

-- the texts so far are in the list
abbrev pub invariant-loop-marker : goal.invariant-loop-marker
invariant-loop-marker l =
    map data_of l.list ≡ map string (map (λ marker. marker.text) (take l.marker-index l.markers))

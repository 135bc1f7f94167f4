use Rattle.std.proofs.Common.{◌≡◌, map, take}
use Rattle.serde_json.specs.View.{view as data_of}
use Rattle.pylock_union.specs.Document.{listed_data}
use Rattle.pylock_union.specs.Listed.{all_lent}
use Rattle.pylock_union.proofs.document.files_list.Given as goal

-- the sources so far are in the list
abbrev pub invariant-loop-source : goal.invariant-loop-source
invariant-loop-source l = map data_of l.files ≡ map (listed_data l.tells_lock) (all_lent (take l.source-index l.list))

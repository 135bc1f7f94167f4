use Rattle.std.proofs.Common.{◌≡◌, map, take}
use Rattle.serde_json.specs.Data.{string}
use Rattle.serde_json.specs.View.{view as data_of}
use Rattle.pylock_documents.proofs.refused.words_list.Given as goal

-- the words so far are in the list
abbrev pub invariant-loop-word : goal.invariant-loop-word
invariant-loop-word l = map data_of l.list ≡ map string (map (λ w. w.now) (take l.word-index l.words))

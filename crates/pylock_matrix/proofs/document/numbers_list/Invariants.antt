use Rattle.std.proofs.Common.{◌≡◌, map, take}
use Rattle.serde_json.specs.Data.{number, unsigned}
use Rattle.serde_json.specs.View.{view as data_of}
use Rattle.pylock_matrix.proofs.document.numbers_list.Given as goal

-- the numbers so far are in the list
abbrev pub invariant-loop-number : goal.invariant-loop-number
invariant-loop-number l = map data_of l.list ≡ map (λ n. number (unsigned n)) (take l.number-index l.numbers)

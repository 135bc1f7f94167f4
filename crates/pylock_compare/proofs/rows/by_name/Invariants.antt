use Rattle.std.proofs.Common.{◌≡◌, ℕ, List, map, take}
use Rattle.std.specs.List.{filter}
use Rattle.std.specs.Str.{bytes_eq}
use Rattle.pylock_compare.specs.Lent.{found}
use Rattle.pylock_compare.proofs.rows.by_name.Given as goal

abbrev pub invariant-loop-name : goal.invariant-loop-name
invariant-loop-name g l =
    (name : List ℕ)
    → found l.table name ≡ map (λ row. row.1) (filter (λ row. bytes_eq name row.0.now) (take l.name-index l.rows))

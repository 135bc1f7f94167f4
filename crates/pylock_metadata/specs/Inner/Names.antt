-- Picks by their names: rows that are lent, and a map of them.
use Rattle.std.specs.Prelude.{ℕ, List, Option, map}
use Rattle.std.specs.Borrow.{Bor}
use Rattle.std.specs.BTreeMap.{BTreeMap, get_by}
use Rattle.std.specs.Cmp.Lexicographic.{slice_cmp}
use Rattle.std.specs.Ordering.{nat_cmp}
use Rattle.pylock_metadata.specs.Named.{Row}

abbrev pub lent_rows : List (Bor (List ℕ) × ℕ) → List Row
lent_rows rows = map (λ row. (row.0.now, row.1)) rows

-- the number under a name
abbrev pub number_under : BTreeMap (Bor (List ℕ)) ℕ → List ℕ → Option ℕ
number_under numbers name = get_by (λ key. slice_cmp nat_cmp name key.now) numbers

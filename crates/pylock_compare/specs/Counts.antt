-- How often keys stand, in a list and in a table.
use Rattle.std.specs.Prelude.{◌≡◌, ℕ, ◌+◌, List, [], ◌∷◌, unwrap_or, if◌then◌else◌}
use Rattle.std.specs.BTreeMap.{BTreeMap, get}
use Rattle.pylock_compare.specs.Texts.{Texts, are_alike, texts_cmp}

abbrev pub count : Texts → List Texts → ℕ
count key [] = 0
count key (other ∷ others) = (if are_alike key other then 1 else 0) + count key others

abbrev pub count_in : BTreeMap Texts ℕ → Texts → ℕ
count_in table key = unwrap_or (get texts_cmp table key) 0

abbrev pub Counts : BTreeMap Texts ℕ → List Texts → Type 0
Counts table keys = (key : Texts) → count_in table key ≡ count key keys

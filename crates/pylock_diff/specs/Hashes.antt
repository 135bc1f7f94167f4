-- Hashes under one name: how they are compared, and how they are shown.
use Rattle.std.specs.Prelude.{ℕ, Bool, not, ◌++◌, List, [], ◌∷◌, codes, Some}
use Rattle.std.specs.Cmp.Lexicographic.{pointwise}
use Rattle.std.specs.List.{flat_map, join_by}
use Rattle.std.specs.Str.{bytes_eq}
use Rattle.pylock_compare.specs.Rows.{in_order, under_each}
use Rattle.pylock_core.specs.Session.Picks.{SourceValue, source_hashes}
use Rattle.pylock_diff.specs.Change.{ChangeValue, change_of, if_both, told_where}
use Rattle.pylock_diff.specs.declared.change.ChangeKind.TheVariants.{Hash}
use Rattle.pylock_places.specs.Shown.{source_label}
use Rattle.pylock_shown.specs.Hidden.{hidden}

-- values as they are shown, joined by `,`, or `-`
abbrev pub hash_values : List (List ℕ) → List ℕ
hash_values [] = codes "-"
hash_values (value ∷ values) = join_by hidden (codes ",") (value ∷ values)

-- file name, algorithm and values, each as it is shown
abbrev pub hash_text : List ℕ → List ℕ → List (List ℕ) → List ℕ
hash_text label algorithm values =
    label ++ codes " " ++ hidden algorithm ++ codes " " ++ hash_values values

-- the same texts stand in both
abbrev pub are_same_sets : (olds news : List (List ℕ)) → Bool
are_same_sets olds news = pointwise bytes_eq (in_order olds) (in_order news)

-- the values of an algorithm, as a set, differ
abbrev pub value_changes : List ℕ → (old new : List ℕ) → List ℕ → (olds news : List (List ℕ))
    → List ChangeValue
value_changes name old new algorithm olds news =
    told_where (not (are_same_sets olds news))
    (change_of Hash name (Some (hash_text old algorithm (in_order olds)))
    (Some (hash_text new algorithm (in_order news))))

-- how sources of one name or place are shown: as the first of them
abbrev pub label_of : List SourceValue → List ℕ
label_of [] = []
label_of (source ∷ sources) = source_label source

-- a line for each algorithm that isn't alike, where both locks have sources of the name
abbrev pub hashes_told : List ℕ → (olds news : List SourceValue) → List ChangeValue
hashes_told name = if_both (λ olds news. under_each
    (value_changes name (label_of olds) (label_of news))
    (flat_map source_hashes olds) (flat_map source_hashes news))

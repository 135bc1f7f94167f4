-- On which machines the entries of a name are installed: their markers and sets of Pythons.
use Rattle.std.specs.Prelude.{ℕ, Bool, ◌++◌, not, List, codes, map}
use Rattle.std.specs.Cmp.Lexicographic.{pointwise}
use Rattle.std.specs.Option.{option_eq}
use Rattle.std.specs.Str.{bytes_eq}
use Rattle.pylock_compare.specs.Texts.{Texts}
use Rattle.pylock_diff.specs.Change.{ChangeValue, change_of, shown_texts, told_where}
use Rattle.pylock_diff.specs.Item.{ItemValue}
use Rattle.pylock_diff.specs.declared.change.ChangeKind.TheVariants.{Condition}

-- the markers in order of entries, and then the sets of Pythons
abbrev pub conditions : List ItemValue → Texts
conditions items = map (λ item. item.marker) items ++ map (λ item. item.pythons) items

-- the same texts, and the same are absent
abbrev pub are_same : (olds news : Texts) → Bool
are_same = pointwise (option_eq bytes_eq)

-- the lists of markers, or those of sets, differ
abbrev pub condition_changes : List ℕ → (olds news : List ItemValue) → List ChangeValue
condition_changes name olds news =
    told_where (not (are_same (conditions olds) (conditions news)))
    (change_of Condition name (shown_texts (codes " | ") (conditions olds))
    (shown_texts (codes " | ") (conditions news)))

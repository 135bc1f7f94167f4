-- What is told of a name: nothing, exactly where each entry has a partner.
use Rattle.std.proofs.Common.{◌≡◌, ◌∙◌, ℕ, false, List, [], ◌∷◌, map, refl, sym, ap, arith}
use Rattle.std.specs.List.{AllByRecursion}
use Rattle.pylock_compare.specs.Counts.{count}
use Rattle.pylock_compare.specs.Rows.{values_at}
use Rattle.pylock_compare.specs.Texts.{Texts}
use Rattle.pylock_compare.proofs.PartnerLemmas.{no_lone, none_alone}
use Rattle.pylock_diff.specs.Changes.{name_changes, rest_changes, row_changes, shared_changes}
use Rattle.pylock_diff.specs.Item.{ItemValue}
use Rattle.pylock_diff.specs.Keys.{are_same_values, entry_key_changes, key_changes, placed_rows}
use Rattle.pylock_diff.specs.Partners.{item_key, without_partners}
use Rattle.pylock_shown.specs.Hidden.{hidden}
use Rattle.pylock_diff.proofs.Same.Counts.{counted_itself}
use Rattle.pylock_diff.proofs.Same.Lists.{back_none, front_none, under_none, untold}
use Rattle.pylock_diff.proofs.Same.Places.{same_values}
use Rattle.pylock_diff.proofs.Same.Rest.{AreSame, IsOfTable, no_rest}

-- ---- where nothing is told

-- the keys of entries of which nothing is told
rest_same : (name : List ℕ) (olds news : List ItemValue) → rest_changes name olds news ≡ [] → AreSame olds news
rest_same name olds news none key =
    let rows = front_none (row_changes name olds news) (entry_key_changes name (row_changes name olds news) olds news) none in
    let keys : entry_key_changes name [] olds news ≡ [] =
    ap (λ told. entry_key_changes name told olds news) (sym rows) ∙ back_none (row_changes name olds news) (entry_key_changes name (row_changes name olds news) olds news) none in
    let olds_at = values_at key (placed_rows false 0 olds) in
    let news_at = values_at key (placed_rows false 0 news) in
    same_values olds_at news_at (untold (are_same_values olds_at news_at) _
    (under_none (key_changes name []) (λ k. refl) (placed_rows false 0 olds) (placed_rows false 0 news) keys key))

both_told : (name : List ℕ) (olds news : List ItemValue) → AllByRecursion IsOfTable olds → AllByRecursion IsOfTable news → shared_changes name olds news ≡ []
    → (k : Texts) → count k (map item_key olds) ≡ count k (map item_key news)
both_told name olds news all too none k =
    let same = rest_same name (without_partners olds news) (without_partners news olds) none in
    let below = none_alone item_key olds (map item_key news) (no_rest olds news all too same) k in
    let above = none_alone item_key news (map item_key olds) (no_rest news olds too all (λ key. sym (same key))) k in
    omega arith

-- where nothing is told of a name, each list of keys stands as often in both
pub name_told : (name : List ℕ) (olds news : List ItemValue) → AllByRecursion IsOfTable olds → AllByRecursion IsOfTable news → name_changes name olds news ≡ []
    → (k : Texts) → count k (map item_key olds) ≡ count k (map item_key news)
name_told name [] [] all too none k = refl
name_told name [] (new ∷ news) all too none k = absurd cc
name_told name (old ∷ olds) [] all too none k = absurd cc
name_told name (old ∷ olds) (new ∷ news) all too none k = both_told (hidden name) (old ∷ olds) (new ∷ news) all too none k

-- ---- where all have partners

both_same : (name : List ℕ) (olds news : List ItemValue) → ((k : Texts) → count k (map item_key olds) ≡ count k (map item_key news)) → shared_changes name olds news ≡ []
both_same name olds news same =
    let left = no_lone item_key olds (map item_key news) (λ k. let alike = same k in omega arith) in
    let right = no_lone item_key news (map item_key olds) (λ k. let alike = same k in omega arith) in
    λ i. rest_changes name (left i) (right i)

-- where each list of keys stands as often in both, nothing is told of the name
pub name_same : (name : List ℕ) (olds news : List ItemValue) → ((k : Texts) → count k (map item_key olds) ≡ count k (map item_key news)) → name_changes name olds news ≡ []
name_same name [] [] same = refl
name_same name [] (new ∷ news) same = (
    let none = same (item_key new) in
    let some = counted_itself (item_key new) (map item_key news) in
    absurd (omega arith))
name_same name (old ∷ olds) [] same = (
    let none = same (item_key old) in
    let some = counted_itself (item_key old) (map item_key olds) in
    absurd (omega arith))
name_same name (old ∷ olds) (new ∷ news) same = both_same (hidden name) (old ∷ olds) (new ∷ news) same

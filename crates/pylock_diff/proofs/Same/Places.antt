-- The keys of entries whose values are the same, place by place.
use Rattle.std.proofs.Common.{◌≡◌, ◌∙◌, ◌++◌, ℕ, ◌<◌, Bool, true, List, [], ◌∷◌, map, suc, refl, sym, ap, subst, arith}
use Rattle.std.proofs.lemmas.Bool.Decides.{Decides-eqb}
use Rattle.std.specs.Cmp.Lexicographic.{bytes_decides, pointwise_decides}
use Rattle.std.specs.List.{AllByRecursion}
use Rattle.pylock_compare.specs.Rows.{values_at}
use Rattle.pylock_diff.specs.Item.{ItemValue}
use Rattle.pylock_diff.specs.Keys.{Placed, are_same_values, placed_rows, rows_of}
use Rattle.pylock_diff.proofs.TextLemmas.{pairs_decide}
use Rattle.pylock_diff.proofs.Same.Lists.{at_append, at_map, front_none, heads, tails}

-- ---- values that are the same

pub same_values : (olds news : List Placed) → are_same_values olds news ≡ true → olds ≡ news
same_values olds news = (pointwise_decides (pairs_decide Decides-eqb bytes_decides) olds news).0

-- ---- the values at one place, and those behind it

fronts : (p : ℕ) (cs ds : List (List ℕ)) (xs ys : List Placed) → AllByRecursion (λ v. p < v.0) xs → AllByRecursion (λ v. p < v.0) ys
    → map {B = Placed} (λ c. (p, c)) cs ++ xs ≡ map {B = Placed} (λ c. (p, c)) ds ++ ys → cs ≡ ds
fronts p [] [] xs ys h k same = refl
fronts p [] (d ∷ ds) [] ys h k same = absurd cc
fronts p [] (d ∷ ds) (x ∷ xs) ys h k same =
    let at : x.0 ≡ p = ap (λ v. v.0) (heads x (p, d) xs (map {B = Placed} (λ c. (p, c)) ds ++ ys) same) in
    let after = h.0 in
    absurd (omega arith)
fronts p (c ∷ cs) [] xs [] h k same = absurd cc
fronts p (c ∷ cs) [] xs (y ∷ ys) h k same =
    let at : p ≡ y.0 = ap (λ v. v.0) (heads (p, c) y (map {B = Placed} (λ c. (p, c)) cs ++ xs) ys same) in
    let after = k.0 in
    absurd (omega arith)
fronts p (c ∷ cs) (d ∷ ds) xs ys h k same =
    let one : c ≡ d = ap (λ v. v.1) (heads (p, c) (p, d) (map {B = Placed} (λ c. (p, c)) cs ++ xs) (map {B = Placed} (λ c. (p, c)) ds ++ ys) same) in
    let more = fronts p cs ds xs ys h k (tails (p, c) (p, d) (map {B = Placed} (λ c. (p, c)) cs ++ xs) (map {B = Placed} (λ c. (p, c)) ds ++ ys) same) in
    λ i. one i ∷ more i

all_joined : (p : ℕ) (xs ys : List Placed) → AllByRecursion (λ v. p < v.0) xs → AllByRecursion (λ v. p < v.0) ys → AllByRecursion (λ v. p < v.0) (xs ++ ys)
all_joined p [] ys h k = k
all_joined p (x ∷ xs) ys h k = (h.0, all_joined p xs ys h.1 k)

all_at : (p q : ℕ) → p < q → (cs : List (List ℕ)) → AllByRecursion (λ v. p < v.0) (map {B = Placed} (λ c. (q, c)) cs)
all_at p q below [] = tt
all_at p q below (c ∷ cs) = (below, all_at p q below cs)

-- the values at a key: those of the first entry, and those of the others
split_at : (of_sources : Bool) (key : List ℕ) (place : ℕ) (item : ItemValue) (items : List ItemValue)
    → values_at key (placed_rows of_sources place (item ∷ items)) ≡ map {B = Placed} (λ c. (place, c)) (values_at key (rows_of of_sources item)) ++ values_at key (placed_rows of_sources (suc place) items)
split_at of_sources key place item items =
    at_append key (map {A = List ℕ × List ℕ} {B = List ℕ × Placed} (λ row. (row.0, (place, row.1))) (rows_of of_sources item)) (placed_rows of_sources (suc place) items)
    ∙ ap (λ vs. vs ++ values_at key (placed_rows of_sources (suc place) items)) (at_map {W = Placed} (λ c. (place, c)) key (rows_of of_sources item))

all_later : (of_sources : Bool) (key : List ℕ) (p place : ℕ) → p < place → (items : List ItemValue) → AllByRecursion (λ v. p < v.0) (values_at key (placed_rows of_sources place items))
all_later of_sources key p place below [] = tt
all_later of_sources key p place below (item ∷ items) =
    subst (AllByRecursion (λ v. p < v.0)) (sym (split_at of_sources key place item items))
    (all_joined p (map {B = Placed} (λ c. (place, c)) (values_at key (rows_of of_sources item))) (values_at key (placed_rows of_sources (suc place) items)) (all_at p place below (values_at key (rows_of of_sources item)))
    (all_later of_sources key p (suc place) (omega arith) items))

-- where all values are the same, place by place, the first entries have the same values
pub first_same : (of_sources : Bool) (old new : ItemValue) (olds news : List ItemValue) (key : List ℕ)
    → values_at key (placed_rows of_sources 0 (old ∷ olds)) ≡ values_at key (placed_rows of_sources 0 (new ∷ news)) → values_at key (rows_of of_sources old) ≡ values_at key (rows_of of_sources new)
first_same of_sources old new olds news key same =
    fronts 0 (values_at key (rows_of of_sources old)) (values_at key (rows_of of_sources new)) (values_at key (placed_rows of_sources 1 olds)) (values_at key (placed_rows of_sources 1 news))
    (all_later of_sources key 0 1 (omega arith) olds) (all_later of_sources key 0 1 (omega arith) news)
    (sym (split_at of_sources key 0 old olds) ∙ same ∙ split_at of_sources key 0 new news)

-- and where the others have none, the first entry has none
pub first_none : (of_sources : Bool) (old : ItemValue) (olds : List ItemValue) (key : List ℕ)
    → values_at key (placed_rows of_sources 0 (old ∷ olds)) ≡ [] → values_at key (rows_of of_sources old) ≡ []
first_none of_sources old olds key none =
    unmapped (values_at key (rows_of of_sources old)) (front_none (map {B = Placed} (λ c. (0, c)) (values_at key (rows_of of_sources old))) (values_at key (placed_rows of_sources 1 olds))
    (sym (split_at of_sources key 0 old olds) ∙ none))
  where
    unmapped : (cs : List (List ℕ)) → map {B = Placed} (λ c. (0, c)) cs ≡ [] → cs ≡ []
    unmapped [] none = refl
    unmapped (c ∷ cs) none = absurd cc

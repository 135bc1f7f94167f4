-- Lists without an element, and what stands under each name.
use Rattle.std.proofs.Common.{◌≡◌, ◌∙◌, ◌++◌, ◌||◌, ℕ, Bool, true, false, cond, not, List, [], ◌∷◌, inl, inr, map, refl, sym, ap}
use Rattle.std.proofs.lemmas.Bool.{cases_Bool}
use Rattle.std.proofs.lemmas.List.Folds.{list_any-append}
use Rattle.std.specs.Cmp.Lexicographic.{bytes_decides}
use Rattle.std.specs.List.{filter, flat_map, list_any}
use Rattle.std.specs.Str.{bytes_eq}
use Rattle.pylock_compare.specs.Rows.{Row, in_order, names_of, under_each, values_at}
use Rattle.pylock_diff.specs.Change.{ChangeValue, told_where}
use Rattle.pylock_compare.proofs.OrderLemmas.{stands_in_order}

-- ---- what an empty list says of its parts

pub front_none : {X : Type 0} (xs ys : List X) → xs ++ ys ≡ [] → xs ≡ []
front_none [] ys none = refl
front_none (x ∷ xs) ys none = absurd cc

pub back_none : {X : Type 0} (xs ys : List X) → xs ++ ys ≡ [] → ys ≡ []
back_none [] ys none = none
back_none (x ∷ xs) ys none = absurd cc

pub not_none : {X : Type 0} (x : X) (xs : List X) → x ∷ xs ≡ [] → ⊥
not_none x xs e = absurd cc

pub untold : (same : Bool) (change : ChangeValue) → told_where (not same) change ≡ [] → same ≡ true
untold true change none = refl
untold false change none = absurd cc

pub each_none : {C : Type 0} (f : List ℕ → List C) (xs : List (List ℕ)) → flat_map f xs ≡ [] → (q : List ℕ) → list_any (bytes_eq q) xs ≡ true → f q ≡ []
each_none f [] none q is = absurd cc
each_none f (x ∷ xs) none q is = elim (cases_Bool (bytes_eq q x)) [
  | inl same ↦ ap f ((bytes_decides q x).0 same) ∙ front_none (f x) (flat_map f xs) none
  | inr other ↦ each_none f xs (back_none (f x) (flat_map f xs) none) q (ap (λ b. b || list_any (bytes_eq q) xs) (sym other) ∙ is)
]

pub nothing : {X C : Type 0} (f : X → List C) → ((x : X) → f x ≡ []) → (xs : List X) → flat_map f xs ≡ []
nothing f none [] = refl
nothing f none (x ∷ xs) = λ i. none x i ++ nothing f none xs i

-- ---- lists that are the same

pub heads : {X : Type 0} (x y : X) (xs ys : List X) → x ∷ xs ≡ y ∷ ys → x ≡ y
heads x y xs ys same = cc

pub tails : {X : Type 0} (x y : X) (xs ys : List X) → x ∷ xs ≡ y ∷ ys → xs ≡ ys
tails x y xs ys same = cc

-- ---- what stands under a name

pub bytes_itself : (xs : List ℕ) → bytes_eq xs xs ≡ true
bytes_itself xs = (bytes_decides xs xs).1 refl

pub at_same : {V : Type 0} (name other : List ℕ) (v : V) (rows : List (Row V)) → bytes_eq name other ≡ true → values_at name ((other, v) ∷ rows) ≡ v ∷ values_at name rows
at_same {V} name other v rows is =
    ap (λ b. map {A = List ℕ × V} (λ row. row.1) (cond b ((other, v) ∷ filter (λ row. bytes_eq name row.0) rows) (filter (λ row. bytes_eq name row.0) rows))) is

pub at_other : {V : Type 0} (name other : List ℕ) (v : V) (rows : List (Row V)) → bytes_eq name other ≡ false → values_at name ((other, v) ∷ rows) ≡ values_at name rows
at_other {V} name other v rows is =
    ap (λ b. map {A = List ℕ × V} (λ row. row.1) (cond b ((other, v) ∷ filter (λ row. bytes_eq name row.0) rows) (filter (λ row. bytes_eq name row.0) rows))) is

pub at_append : {V : Type 0} (name : List ℕ) (xs ys : List (Row V)) → values_at name (xs ++ ys) ≡ values_at name xs ++ values_at name ys
at_append name [] ys = refl
at_append name (x ∷ xs) ys = elim (cases_Bool (bytes_eq name x.0)) [
  | inl is ↦ at_same name x.0 x.1 (xs ++ ys) is ∙ ap (λ more. x.1 ∷ more) (at_append name xs ys) ∙ ap (λ more. more ++ values_at name ys) (sym (at_same name x.0 x.1 xs is))
  | inr other ↦ at_other name x.0 x.1 (xs ++ ys) other ∙ at_append name xs ys ∙ ap (λ more. more ++ values_at name ys) (sym (at_other name x.0 x.1 xs other))
]

pub at_map : {V W : Type 0} (f : V → W) (name : List ℕ) (rows : List (Row V)) → values_at name (map {A = List ℕ × V} {B = List ℕ × W} (λ row. (row.0, f row.1)) rows) ≡ map f (values_at name rows)
at_map f name [] = refl
at_map {V} {W} f name (row ∷ rows) = elim (cases_Bool (bytes_eq name row.0)) [
  | inl is ↦ at_same name row.0 (f row.1) (map {A = List ℕ × V} {B = List ℕ × W} (λ row. (row.0, f row.1)) rows) is ∙ ap (λ more. f row.1 ∷ more) (at_map f name rows) ∙ ap (map f) (sym (at_same name row.0 row.1 rows is))
  | inr other ↦ at_other name row.0 (f row.1) (map {A = List ℕ × V} {B = List ℕ × W} (λ row. (row.0, f row.1)) rows) other ∙ at_map f name rows ∙ ap (map f) (sym (at_other name row.0 row.1 rows other))
]

-- ---- what is told under each name

parts : (a b : Bool) → (a || b) ≡ false → (a ≡ false) × (b ≡ false)
parts true b is = absurd cc
parts false b is = (refl, is)

-- no value stands under a name that no row has
no_values : {V : Type 0} (name : List ℕ) (rows : List (Row V)) → list_any (bytes_eq name) (names_of rows) ≡ false → values_at name rows ≡ []
no_values name [] none = refl
no_values name (row ∷ rows) none =
    let apart = parts (bytes_eq name row.0) (list_any (bytes_eq name) (names_of rows)) none in
    at_other name row.0 row.1 rows apart.0 ∙ no_values name rows apart.1

-- nor under one that stands nowhere
pub stand_nowhere : {V : Type 0} (olds news : List (Row V)) (name : List ℕ) → list_any (bytes_eq name) (in_order (names_of olds ++ names_of news)) ≡ false
    → (values_at name olds ≡ []) × (values_at name news ≡ [])
stand_nowhere olds news name none =
    let apart = parts (list_any (bytes_eq name) (names_of olds)) (list_any (bytes_eq name) (names_of news))
    (sym (list_any-append (bytes_eq name) (names_of olds) (names_of news)) ∙ sym (stands_in_order (names_of olds ++ names_of news) name) ∙ none) in
    (no_values name olds apart.0, no_values name news apart.1)

-- where nothing is told under each name, nothing is told of any text, if nothing is told of nothing
pub under_none : {V C : Type 0} (told : List ℕ → List V → List V → List C) → ((name : List ℕ) → told name [] [] ≡ []) → (olds news : List (Row V)) → under_each told olds news ≡ []
    → (name : List ℕ) → told name (values_at name olds) (values_at name news) ≡ []
under_none told empty olds news none name = elim (cases_Bool (list_any (bytes_eq name) (in_order (names_of olds ++ names_of news)))) [
  | inl is ↦ each_none (λ name. told name (values_at name olds) (values_at name news)) (in_order (names_of olds ++ names_of news)) none name is
  | inr is ↦ (let none = stand_nowhere olds news name is in (λ i. told name (none.0 i) (none.1 i)) ∙ empty name)
]

-- and where nothing is told of any text, nothing is told under each name
pub none_under : {V C : Type 0} (told : List ℕ → List V → List V → List C) (olds news : List (Row V))
    → ((name : List ℕ) → told name (values_at name olds) (values_at name news) ≡ []) → under_each told olds news ≡ []
none_under told olds news none = nothing (λ name. told name (values_at name olds) (values_at name news)) none (in_order (names_of olds ++ names_of news))

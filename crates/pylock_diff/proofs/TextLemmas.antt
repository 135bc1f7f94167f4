-- Texts, codes and pairs of them, compared one by one.
use Rattle.std.proofs.Common.{◌≡◌, ◌∙◌, ◌++◌, ◌&&◌, ℕ, ◌+◌, ◌<◌, Bool, true, false, Bor, List, get_or, length, map, take, Option, None, Some, String, Vec, Global, string_bytes, refl, sym, ap}
use Rattle.std.proofs.lemmas.List.{flat_map_more, take_more}
use Rattle.std.specs.Bool.{Decides}
use Rattle.std.specs.Cmp.Derive.Mapped.{pointwise-map}
use Rattle.std.specs.Cmp.Lexicographic.{bytes_decides, pointwise, pointwise_decides}
use Rattle.std.specs.Option.{option_copied, option_eq}
use Rattle.std.specs.Str.{bytes_eq}
use Rattle.pylock_compare.specs.Lent.{each_told, found}
use Rattle.pylock_compare.specs.declared.rows.Sides.{Sides}
use Rattle.pylock_diff.specs.Codes.{code_row}

-- ---- texts that may be absent

one_option : (x y : Option (Bor (List ℕ))) → option_eq bytes_eq (option_copied x) (option_copied y) ≡ option_eq (λ (a b : Bor (List ℕ)). bytes_eq a.now b.now) x y
one_option None None = refl
one_option None (Some y) = refl
one_option (Some x) None = refl
one_option (Some x) (Some y) = refl

pub same_options : (xs ys : List (Option (Bor (List ℕ))))
    → pointwise (option_eq (λ (a b : Bor (List ℕ)). bytes_eq a.now b.now)) xs ys ≡ pointwise (option_eq bytes_eq) (map option_copied xs) (map option_copied ys)
same_options xs ys = sym (pointwise-map option_copied (option_eq bytes_eq) xs ys ∙ (λ i. pointwise (λ x y. one_option x y i) xs ys))

-- ---- pairs

pub pairs_decide : {A B : Type 0} {E : A → A → Bool} {F : B → B → Bool} → ((x y : A) → Decides (E x y) (x ≡ y)) → ((x y : B) → Decides (F x y) (x ≡ y))
    → (p q : A × B) → Decides (E p.0 q.0 && F p.1 q.1) (p ≡ q)
pairs_decide {A} {B} {E} {F} one other p q = (
  λ is. let (first, second) = both (E p.0 q.0) (F p.1 q.1) is in λ i. ((one p.0 q.0).0 first i, (other p.1 q.1).0 second i),
  λ same. λ i. (one p.0 q.0).1 (ap (λ (x : A × B). x.0) same) i && (other p.1 q.1).1 (ap (λ (x : A × B). x.1) same) i,
)
  where
    both : (a b : Bool) → (a && b) ≡ true → (a ≡ true) × (b ≡ true)
    both true b is = (refl, is)
    both false b is = absurd cc

-- codes that are the same, one by one
pub same_codes : (xs ys : List (String Global × Vec ℕ Global))
    → pointwise (λ (x y : String Global × Vec ℕ Global). bytes_eq (string_bytes x.0) (string_bytes y.0) && bytes_eq x.1.items y.1.items) xs ys ≡ true → map code_row xs ≡ map code_row ys
same_codes xs ys is =
    (pointwise_decides (pairs_decide bytes_decides bytes_decides) (map code_row xs) (map code_row ys)).0
    (pointwise-map code_row (λ (x y : List ℕ × List ℕ). bytes_eq x.0 y.0 && bytes_eq x.1 y.1) xs ys ∙ is)

-- ---- what is told of names, with one name more

pub told_more : {V W C : Type 0} (view : V → W) (told : List ℕ → List W → List W → List C) (sides : Sides V) (names : List (Bor (List ℕ))) (i : ℕ) (d : Bor (List ℕ))
    (old new : List V) (start before after : List C)
    → i < length names → old ≡ found sides.olds (get_or names i d).now → new ≡ found sides.news (get_or names i d).now
    → after ≡ before ++ told (get_or names i d).now (map view old) (map view new) → before ≡ start ++ each_told view told sides (take i names)
    → after ≡ start ++ each_told view told sides (take (i + 1) names)
told_more {V} {W} {C} view told sides names i d old new start before after within from to added so_far =
    added
    ∙ (λ j. so_far j ++ told (get_or names i d).now (map view (from j)) (map view (to j)))
    ∙ flat_map_more one start (take i names) (get_or names i d)
    ∙ ap (λ ns. start ++ each_told view told sides ns) (sym (take_more names i d within))
  where
    one : Bor (List ℕ) → List C
    one name = told name.now (map view (found sides.olds name.now)) (map view (found sides.news name.now))

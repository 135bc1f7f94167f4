-- The order of texts that are lent is that of the texts; and sets of lists of texts.
use Rattle.std.proofs.Common.{Less, Equal, Greater, ◌≡◌, ◌∙◌, ◌||◌, ℕ, ◌+◌, ◌<◌, Bool, true, false, Bor, List, [], ◌∷◌, length, get_or, map, take, Option, Some, None, refl, sym, ap}
use Rattle.std.proofs.Math.Bool.{or-false}
use Rattle.std.proofs.lemmas.List.{take_more}
use Rattle.std.proofs.lemmas.List.Folds.{list_any-append}
use Rattle.std.specs.BTreeSet.{insert_key}
use Rattle.std.specs.Cmp.{Equal-is, eq_by_cmp_equiv}
use Rattle.std.specs.Cmp.Derive.Mapped.{lex_map}
use Rattle.std.specs.Cmp.Lexicographic.{slice_cmp}
use Rattle.std.specs.FinSet.{nat_cmp-IsAntisymmetric, slice_cmp-IsAntisymmetric}
use Rattle.std.specs.List.{list_any}
use Rattle.std.specs.Option.{option_cmp, option_copied}
use Rattle.std.specs.Ordering.{match_ordering, nat_cmp}
use Rattle.pylock_compare.specs.Texts.{Texts, are_alike, texts_cmp}
use Rattle.pylock_compare.specs.TextsOrder.{texts_total}

one : (x y : Option (Bor (List ℕ)))
    → option_cmp (slice_cmp nat_cmp) (option_copied x) (option_copied y) ≡ option_cmp (λ (a b : Bor (List ℕ)). slice_cmp nat_cmp a.now b.now) x y
one None None = refl
one None (Some y) = refl
one (Some x) None = refl
one (Some x) (Some y) = refl

pub lent_cmp : (xs ys : List (Option (Bor (List ℕ))))
    → slice_cmp (option_cmp (λ (a b : Bor (List ℕ)). slice_cmp nat_cmp a.now b.now)) xs ys ≡ texts_cmp (map option_copied xs) (map option_copied ys)
lent_cmp xs ys = sym (lex_map option_copied (option_cmp (slice_cmp nat_cmp)) xs ys ∙ (λ i. slice_cmp (λ x y. one x y i) xs ys))

-- ---- only equal lists are alike

text_exact : (x y : Option (List ℕ)) → option_cmp (slice_cmp nat_cmp) x y ≡ Equal → x ≡ y
text_exact None None e = refl
text_exact None (Some y) e = absurd cc
text_exact (Some x) None e = absurd cc
text_exact (Some x) (Some y) e = ap Some (slice_cmp-IsAntisymmetric nat_cmp-IsAntisymmetric x y e)

pub texts_exact : (x y : Texts) → texts_cmp x y ≡ Equal → x ≡ y
texts_exact = slice_cmp-IsAntisymmetric text_exact

-- ---- a set that gains a list of texts

twice : (b r : Bool) → (b || r) ≡ (b || (b || r))
twice true r = refl
twice false r = refl

or_swap : (a b r : Bool) → (a || (b || r)) ≡ (b || (a || r))
or_swap true true r = refl
or_swap true false r = refl
or_swap false b r = refl

any_put : (key k : Texts) (ks : List Texts) → list_any (are_alike key) (insert_key texts_cmp ks k) ≡ (are_alike key k || list_any (are_alike key) ks)
any_put key k [] = refl
any_put key k (x ∷ ks) =
    elim (texts_cmp k x) as (λ r. texts_cmp k x ≡ r → list_any (are_alike key) (match_ordering r (k ∷ x ∷ ks) (x ∷ ks) (x ∷ insert_key texts_cmp ks k)) ≡ (are_alike key k || (are_alike key x || list_any (are_alike key) ks))) [
      | Less ↦ λ e. refl
      | Equal ↦ λ e. twice (are_alike key x) _ ∙ ap (λ y. are_alike key y || (are_alike key x || list_any (are_alike key) ks)) (sym (texts_exact k x e))
      | Greater ↦ λ e. ap (λ b. are_alike key x || b) (any_put key k ks) ∙ or_swap (are_alike key x) (are_alike key k) _
    ] refl

or_last : (b r a : Bool) → (a || (b || r)) ≡ (b || (r || (a || false)))
or_last true r true = refl
or_last true r false = refl
or_last false true true = refl
or_last false true false = refl
or_last false false true = refl
or_last false false false = refl

pub any_grown : {X : Type 0} (key k : Texts) (old new : List Texts) (before : Bool) (p : X → Bool) (xs : List X) (i : ℕ) (d : X)
    → i < length xs → new ≡ insert_key texts_cmp old k → are_alike key k ≡ p (get_or xs i d)
    → list_any (are_alike key) old ≡ (before || list_any p (take i xs))
    → list_any (are_alike key) new ≡ (before || list_any p (take (i + 1) xs))
any_grown key k old new before p xs i d within put is so_far =
    ap (list_any (are_alike key)) put ∙ any_put key k old
    ∙ (λ j. is j || so_far j)
    ∙ or_last before (list_any p (take i xs)) (p (get_or xs i d))
    ∙ ap (λ b. before || b) (sym (list_any-append p (take i xs) (get_or xs i d ∷ [])))
    ∙ ap (λ ys. before || list_any p ys) (sym (take_more xs i d within))

-- the same where more lists are put in at once
pub any_joined : {X : Type 0} (new old : Bool) (p : X → Bool) (xs : List X) (i : ℕ) (d : X)
    → i < length xs → new ≡ (old || p (get_or xs i d)) → old ≡ list_any p (take i xs) → new ≡ list_any p (take (i + 1) xs)
any_joined new old p xs i d within put so_far =
    put ∙ ap (λ b. b || p (get_or xs i d)) so_far
    ∙ ap (λ b. list_any p (take i xs) || b) (sym (or-false (p (get_or xs i d))))
    ∙ sym (list_any-append p (take i xs) (get_or xs i d ∷ []))
    ∙ ap (list_any p) (sym (take_more xs i d within))

pub any_mapped : {X Z : Type 0} (p : Z → Bool) (f : X → Z) (xs : List X) → list_any p (map f xs) ≡ list_any (λ x. p (f x)) xs
any_mapped p f [] = refl
any_mapped p f (x ∷ xs) = ap (λ b. p (f x) || b) (any_mapped p f xs)

-- ---- lists that are alike

pub alike_itself : (texts : Texts) → are_alike texts texts ≡ true
alike_itself = (eq_by_cmp_equiv texts_total).refl

pub alike_equal : (xs ys : Texts) → are_alike xs ys ≡ true → xs ≡ ys
alike_equal xs ys is = texts_exact xs ys ((Equal-is (texts_cmp xs ys)).0 is)

pub ruleset alike_texts = (alike_equal, alike_itself)

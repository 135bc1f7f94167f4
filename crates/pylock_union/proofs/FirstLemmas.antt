-- Each file once, one source on.
use Rattle.std.proofs.Common.{◌≡◌, ◌∙◌, ◌+◌, ◌<◌, ℕ, true, false, cond, List, [], ◌∷◌, ◌++◌, append_assoc, arith, ap, drop, get_or, length, map, suc, sym, take}
use Rattle.std.proofs.Math.Seq.{drop-cons}
use Rattle.std.proofs.lemmas.List.{map-append, take_more}
use Rattle.std.specs.List.{list_any}
use Rattle.pylock_union.specs.Listed.{LockSourceValue}
use Rattle.pylock_union.specs.Union.{firsts_after, is_same_file}

-- ---- what is taken and what is left of a list, one element on

pub next : {A : Type 0} (xs : List A) (i : ℕ) (x : A) → i < length xs → x ≡ get_or xs i x → drop i xs ≡ x ∷ drop (i + 1) xs
next {A} xs i x within is =
    let one : suc i ≡ i + 1 = omega arith in
    drop-cons xs i x within ∙ ap (λ n. get_or xs i x ∷ drop n xs) one ∙ ap (λ y. y ∷ drop (i + 1) xs) (sym is)

pub taken : {A : Type 0} (xs : List A) (i : ℕ) (x : A) → i < length xs → x ≡ get_or xs i x → take (i + 1) xs ≡ take i xs ++ x ∷ []
taken xs i x within is = take_more xs i x within ∙ ap (λ y. take i xs ++ y ∷ []) (sym is)

pub next_mapped : {A B : Type 0} (f : A → B) (xs : List A) (i : ℕ) (x : A) → i < length xs → x ≡ get_or xs i x
    → map f (drop i xs) ≡ f x ∷ map f (drop (i + 1) xs)
next_mapped f xs i x within is = ap (map f) (next xs i x within is)

pub taken_mapped : {A B : Type 0} (f : A → B) (xs : List A) (i : ℕ) (x : A) → i < length xs → x ≡ get_or xs i x
    → map f (take (i + 1) xs) ≡ map f (take i xs) ++ f x ∷ []
taken_mapped f xs i x within is = ap (map f) (taken xs i x within is) ∙ map-append f (take i xs) (x ∷ [])

-- ---- a source more

-- the source is new
pub first_more : (so_far before list : List LockSourceValue) (one : LockSourceValue) → list_any (is_same_file one) before ≡ false
    → (so_far ++ one ∷ []) ++ firsts_after (before ++ one ∷ []) list ≡ so_far ++ firsts_after before (one ∷ list)
first_more so_far before list one none =
    append_assoc so_far (one ∷ []) (firsts_after (before ++ one ∷ []) list)
    ∙ ap (λ b. so_far ++ cond b (firsts_after (before ++ one ∷ []) list) (one ∷ firsts_after (before ++ one ∷ []) list)) (sym none)

-- an earlier one is the same file
pub again : (so_far before list : List LockSourceValue) (one : LockSourceValue) → list_any (is_same_file one) before ≡ true
    → so_far ++ firsts_after (before ++ one ∷ []) list ≡ so_far ++ firsts_after before (one ∷ list)
again so_far before list one some =
    ap (λ b. so_far ++ cond b (firsts_after (before ++ one ∷ []) list) (one ∷ firsts_after (before ++ one ∷ []) list)) (sym some)

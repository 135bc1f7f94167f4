-- A release begins with some numbers where it lies between their first version and that of the same numbers with one
-- more at the last.
use Rattle.std.proofs.Common.{◌≡◌, ℕ, suc, ◌+◌, ◌-◌, ◌<◌, ◌⊎◌, inl, inr, Bool, true, false, List, [], ◌∷◌, length, nat_eq, refl, sym, ap, ◌∙◌, arith}
use Rattle.std.specs.Prelude.{◌&&◌, ◌==◌, not}
use Rattle.std.specs.List.{starts_with}
use Rattle.std.specs.Cmp.{nat_cmp_is}
use Rattle.std.specs.Cmp.Lexicographic.{slice_cmp}
use Rattle.std.specs.Ordering.{is_lt, nat_cmp, ordering_then}
use Rattle.std.specs.declared.cmp.Ordering.{Ordering}
use Rattle.std.specs.declared.cmp.Ordering.TheVariants.{Less, Equal, Greater}
use Rattle.std.proofs.lemmas.Bool.{cases_order, eq-eqb, ne_eqb}
use Rattle.pyver_core.specs.Inner.Releases.{release_cmp-both, release_cmp_without_zeros}
use Rattle.pyver_core.specs.Set.Admission.{matches_prefix}
use Rattle.pyver_core.specs.Version.Hashing.{without_trailing_zeros}
use Rattle.pyver_core.specs.Version.Order.{release_cmp, with_zeros}
use Rattle.pyver_core.specs.Version.Parts.{Parts}
use Rattle.pyver_algebra.specs.Firsts.{first_of, with_last_raised}
use Rattle.pyver_algebra.proofs.OrderLemmas.{front_cmp}

abbrev pub begins : List ℕ → List ℕ → Bool
begins release prefix = starts_with nat_eq (with_zeros (length prefix) release) prefix

-- nothing is less than no numbers
pub from_none : (xs : List ℕ) → is_lt (release_cmp xs []) ≡ false
unfolding without_trailing_zeros
from_none xs = ap is_lt (release_cmp_without_zeros xs []) ∙ from_nil (without_trailing_zeros xs)
  where
    from_nil : (ys : List ℕ) → is_lt (slice_cmp nat_cmp ys []) ≡ false
    from_nil [] = refl
    from_nil (y ∷ ys) = refl

-- a release without a number is one of a 0
pub none_is_zero : (b : List ℕ) → release_cmp [] b ≡ release_cmp (0 ∷ []) b
unfolding without_trailing_zeros
none_is_zero b = release_cmp_without_zeros [] b ∙ sym (release_cmp_without_zeros (0 ∷ []) b)

pub none_begins : (x : ℕ) (xs : List ℕ) → begins [] (x ∷ xs) ≡ (nat_eq x 0 && begins [] xs)
none_begins x xs =
    let e : length (x ∷ xs) - 0 ≡ suc (length xs - 0) = omega arith in
    rw e refl

pub some_begins : (y : ℕ) (ys : List ℕ) (x : ℕ) (xs : List ℕ) → begins (y ∷ ys) (x ∷ xs) ≡ (nat_eq x y && begins ys xs)
some_begins y ys x xs =
    let e : length (x ∷ xs) - length (y ∷ ys) ≡ length xs - length ys = omega arith in
    rw e refl

-- one number
pub raised_or_more : (x y : ℕ) (s : Ordering) → x < y → is_lt s ≡ false → (y ≡ x + 1) ⊎ ((y < x + 1) ⊎ (x + 1 < y))
    → is_lt (ordering_then (nat_cmp y (x + 1)) s) ≡ false
raised_or_more x y s more e (inl same) = rw (sym (nat_cmp_is y (x + 1) Equal same)) e
raised_or_more x y s more e (inr (inl below)) = absurd (omega arith)
raised_or_more x y s more e (inr (inr above)) = rw (sym (nat_cmp_is y (x + 1) Greater above)) refl

begins_one : (x y : ℕ) (s : Ordering) → is_lt s ≡ false → (x ≡ y) ⊎ ((x < y) ⊎ (y < x)) → (nat_eq x y && true)
    ≡ (not (is_lt (ordering_then (nat_cmp y x) s)) && is_lt (ordering_then (nat_cmp y (x + 1)) s))
begins_one x y s e (inl same) =
    rw (eq-eqb x y same, sym (nat_cmp_is y x Equal (sym same)), sym (nat_cmp_is y (x + 1) Less (omega arith)), e) refl
begins_one x y s e (inr (inl more)) =
    rw (ne_eqb x y (λ same. omega arith), sym (nat_cmp_is y x Greater more), raised_or_more x y s more e (cases_order y (x + 1))) refl
begins_one x y s e (inr (inr less)) = rw (ne_eqb x y (λ same. omega arith), sym (nat_cmp_is y x Less less)) refl

-- one number of more
begins_more : (x y : ℕ) (b : Bool) (s t : Ordering) → b ≡ (not (is_lt s) && is_lt t) → (x ≡ y) ⊎ ((x < y) ⊎ (y < x))
    → (nat_eq x y && b) ≡ (not (is_lt (ordering_then (nat_cmp y x) s)) && is_lt (ordering_then (nat_cmp y x) t))
begins_more x y b s t e (inl same) = rw (eq-eqb x y same, sym (nat_cmp_is y x Equal (sym same))) e
begins_more x y b s t e (inr (inl more)) = rw (ne_eqb x y (λ same. omega arith), sym (nat_cmp_is y x Greater more)) refl
begins_more x y b s t e (inr (inr less)) = rw (ne_eqb x y (λ same. omega arith), sym (nat_cmp_is y x Less less)) refl

pub begins_is : (c : List ℕ) (x : ℕ) (xs : List ℕ)
    → begins c (x ∷ xs) ≡ (not (is_lt (release_cmp c (x ∷ xs))) && is_lt (release_cmp c (with_last_raised (x ∷ xs))))
begins_is [] x [] =
    rw (none_begins x [], none_is_zero (x ∷ []), none_is_zero ((x + 1) ∷ []), release_cmp-both 0 [] x [], release_cmp-both 0 [] (x + 1) [])
    (begins_one x 0 (release_cmp [] []) (from_none []) (cases_order x 0))
begins_is [] x (z ∷ zs) =
    rw (none_begins x (z ∷ zs), none_is_zero (x ∷ z ∷ zs), none_is_zero (x ∷ with_last_raised (z ∷ zs)), release_cmp-both 0 [] x (z ∷ zs), release_cmp-both 0 [] x (with_last_raised (z ∷ zs)))
    (begins_more x 0 (begins [] (z ∷ zs)) _ _ (begins_is [] z zs) (cases_order x 0))
begins_is (y ∷ ys) x [] =
    rw (some_begins y ys x [], release_cmp-both y ys x [], release_cmp-both y ys (x + 1) [])
    (begins_one x y (release_cmp ys []) (from_none ys) (cases_order x y))
begins_is (y ∷ ys) x (z ∷ zs) =
    rw (some_begins y ys x (z ∷ zs), release_cmp-both y ys x (z ∷ zs), release_cmp-both y ys x (with_last_raised (z ∷ zs)))
    (begins_more x y (begins ys (z ∷ zs)) _ _ (begins_is ys z zs) (cases_order x y))

-- with an epoch
in_epoch : (x y : ℕ) (b : Bool) (s t : Ordering) → b ≡ (not (is_lt s) && is_lt t) → (x ≡ y) ⊎ ((x < y) ⊎ (y < x))
    → ((x == y) && b) ≡ (not (is_lt (ordering_then (nat_cmp x y) s)) && is_lt (ordering_then (nat_cmp x y) t))
in_epoch x y b s t e (inl same) = rw (sym (nat_cmp_is x y Equal same), eq-eqb x y same) e
in_epoch x y b s t e (inr (inl less)) = rw (sym (nat_cmp_is x y Less less), ne_eqb x y (λ same. omega arith)) refl
in_epoch x y b s t e (inr (inr more)) = rw (sym (nat_cmp_is x y Greater more), ne_eqb x y (λ same. omega arith)) refl

pub prefix_is : (epoch : ℕ) (release : List ℕ) (c : Parts) → (length release == 0) ≡ false → matches_prefix epoch release c
    ≡ (not (is_lt (front_cmp c (first_of epoch release))) && is_lt (front_cmp c (first_of epoch (with_last_raised release))))
prefix_is epoch [] c some = cc some
prefix_is epoch (x ∷ xs) c some = in_epoch c.epoch epoch _ _ _ (begins_is c.release x xs) (cases_order c.epoch epoch)

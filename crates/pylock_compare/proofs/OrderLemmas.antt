-- Texts in order: they rise, each text stands there, and it doesn't matter in which order they came.
use Rattle.std.proofs.Common.{Ordering, Less, Equal, Greater, ◌≡◌, ◌∙◌, ◌++◌, ◌||◌, ℕ, Bool, true, false, List, [], ◌∷◌, refl, sym, ap}
use Rattle.std.specs.BTreeSet.{insert_key}
use Rattle.std.specs.Cmp.Lexicographic.{nat_list_cmp_total, slice_cmp}
use Rattle.std.specs.FinSet.{nat_cmp-IsAntisymmetric, slice_cmp-IsAntisymmetric}
use Rattle.std.specs.List.{AllByRecursion, list_any}
use Rattle.std.specs.List.Sorted.{IsStrictlySortedBy}
use Rattle.std.specs.Ordering.{match_ordering, nat_cmp, ordering_reverse}
use Rattle.std.specs.Str.{bytes_eq}
use Rattle.pylock_compare.specs.Rows.{in_order, put_among}

abbrev R : List ℕ → List ℕ → Ordering
R = slice_cmp nat_cmp

abbrev put : List (List ℕ) → List ℕ → List (List ℕ)
put = insert_key (slice_cmp nat_cmp)

exact : (x y : List ℕ) → R x y ≡ Equal → x ≡ y
exact = slice_cmp-IsAntisymmetric nat_cmp-IsAntisymmetric

turned : (x y : List ℕ) (r : Ordering) → R x y ≡ r → R y x ≡ ordering_reverse r
turned x y r e = nat_list_cmp_total.antisymm y x ∙ ap ordering_reverse e

-- ---- two texts, put in either order

two : (a b : List ℕ) (rest : List (List ℕ))
    → match_ordering (R b a) (b ∷ a ∷ rest) (a ∷ rest) (a ∷ b ∷ rest) ≡ match_ordering (R a b) (a ∷ b ∷ rest) (b ∷ rest) (b ∷ a ∷ rest)
two a b rest =
    elim (R b a) as (λ r. R b a ≡ r → match_ordering r (b ∷ a ∷ rest) (a ∷ rest) (a ∷ b ∷ rest) ≡ match_ordering (R a b) (a ∷ b ∷ rest) (b ∷ rest) (b ∷ a ∷ rest)) [
      | Less ↦ λ e. ap (λ r. match_ordering r (a ∷ b ∷ rest) (b ∷ rest) (b ∷ a ∷ rest)) (sym (turned b a Less e))
      | Equal ↦ λ e. ap (λ x. x ∷ rest) (sym (exact b a e)) ∙ ap (λ r. match_ordering r (a ∷ b ∷ rest) (b ∷ rest) (b ∷ a ∷ rest)) (sym (turned b a Equal e))
      | Greater ↦ λ e. ap (λ r. match_ordering r (a ∷ b ∷ rest) (b ∷ rest) (b ∷ a ∷ rest)) (sym (turned b a Greater e))
    ] refl

at : (k x : List ℕ) (xs : List (List ℕ)) (r : Ordering) → R k x ≡ r → put (x ∷ xs) k ≡ match_ordering r (k ∷ x ∷ xs) (x ∷ xs) (x ∷ put xs k)
at k x xs r e = ap (λ r. match_ordering r (k ∷ x ∷ xs) (x ∷ xs) (x ∷ put xs k)) e

-- a below x, and b equal to it
below_equal : (a b x : List ℕ) (xs : List (List ℕ)) → R a x ≡ Less → R b x ≡ Equal → put (a ∷ x ∷ xs) b ≡ put (x ∷ xs) a
below_equal a b x xs ea eb =
    let over : R b a ≡ Greater = ap (λ y. R y a) (exact b x eb) ∙ turned a x Less ea in
    at b a (x ∷ xs) Greater over ∙ ap (λ rest. a ∷ rest) (at b x xs Equal eb) ∙ sym (at a x xs Less ea)

-- a below x, and b above it
below_above : (a b x : List ℕ) (xs : List (List ℕ)) → R a x ≡ Less → R b x ≡ Greater → put (a ∷ x ∷ xs) b ≡ put (x ∷ put xs b) a
below_above a b x xs ea eb =
    let over : R b a ≡ Greater = turned a b Less (nat_list_cmp_total.trans a x b ea (turned b x Greater eb)) in
    at b a (x ∷ xs) Greater over ∙ ap (λ rest. a ∷ rest) (at b x xs Greater eb) ∙ sym (at a x (put xs b) Less ea)

-- a equal to x, and b above it
equal_above : (a b x : List ℕ) (xs : List (List ℕ)) → R a x ≡ Equal → R b x ≡ Greater → put (x ∷ xs) b ≡ put (x ∷ put xs b) a
equal_above a b x xs ea eb = at b x xs Greater eb ∙ sym (at a x (put xs b) Equal ea)

commute_by : (a b x : List ℕ) (xs : List (List ℕ)) → put (put xs a) b ≡ put (put xs b) a → (ra rb : Ordering) → R a x ≡ ra → R b x ≡ rb
    → put (match_ordering ra (a ∷ x ∷ xs) (x ∷ xs) (x ∷ put xs a)) b ≡ put (match_ordering rb (b ∷ x ∷ xs) (x ∷ xs) (x ∷ put xs b)) a
commute_by a b x xs later Less Less ea eb =
    ap (λ rest. match_ordering (R b a) (b ∷ a ∷ x ∷ xs) (a ∷ x ∷ xs) (a ∷ rest)) (at b x xs Less eb)
    ∙ two a b (x ∷ xs)
    ∙ ap (λ rest. match_ordering (R a b) (a ∷ b ∷ x ∷ xs) (b ∷ x ∷ xs) (b ∷ rest)) (sym (at a x xs Less ea))
commute_by a b x xs later Less Equal ea eb = below_equal a b x xs ea eb
commute_by a b x xs later Less Greater ea eb = below_above a b x xs ea eb
commute_by a b x xs later Equal Less ea eb = sym (below_equal b a x xs eb ea)
commute_by a b x xs later Equal Equal ea eb = at b x xs Equal eb ∙ sym (at a x xs Equal ea)
commute_by a b x xs later Equal Greater ea eb = equal_above a b x xs ea eb
commute_by a b x xs later Greater Less ea eb = sym (below_above b a x xs eb ea)
commute_by a b x xs later Greater Equal ea eb = sym (equal_above b a x xs eb ea)
commute_by a b x xs later Greater Greater ea eb = at b x (put xs a) Greater eb ∙ ap (λ rest. x ∷ rest) later ∙ sym (at a x (put xs b) Greater ea)

commute : (xs : List (List ℕ)) (a b : List ℕ) → put (put xs a) b ≡ put (put xs b) a
commute [] a b = two a b []
commute (x ∷ xs) a b = commute_by a b x xs (commute xs a b) (R a x) (R b x) refl refl

-- ---- many texts, put in either order

put_one : (sorted texts : List (List ℕ)) (a : List ℕ) → put_among (put sorted a) texts ≡ put (put_among sorted texts) a
put_one sorted [] a = refl
put_one sorted (t ∷ texts) a = ap (λ keys. put_among keys texts) (commute sorted a t) ∙ put_one (put sorted t) texts a

put_both : (sorted xs ys : List (List ℕ)) → put_among (put_among sorted xs) ys ≡ put_among (put_among sorted ys) xs
put_both sorted [] ys = refl
put_both sorted (x ∷ xs) ys = put_both (put sorted x) xs ys ∙ ap (λ keys. put_among keys xs) (put_one sorted ys x)

put_append : (sorted xs ys : List (List ℕ)) → put_among sorted (xs ++ ys) ≡ put_among (put_among sorted xs) ys
put_append sorted [] ys = refl
put_append sorted (x ∷ xs) ys = put_append (put sorted x) xs ys

pub in_order-swap : (xs ys : List (List ℕ)) → in_order (xs ++ ys) ≡ in_order (ys ++ xs)
in_order-swap xs ys = put_append [] xs ys ∙ put_both [] xs ys ∙ sym (put_append [] ys xs)

-- ---- they rise

above_put : (z k : List ℕ) (xs : List (List ℕ)) → R z k ≡ Less → AllByRecursion (λ y. R z y ≡ Less) xs → AllByRecursion (λ y. R z y ≡ Less) (put xs k)
above_put z k [] less all = (less, tt)
above_put z k (x ∷ xs) less all =
    elim (R k x) as (λ r. AllByRecursion (λ y. R z y ≡ Less) (match_ordering r (k ∷ x ∷ xs) (x ∷ xs) (x ∷ put xs k))) [
      | Less ↦ (less, all)
      | Equal ↦ all
      | Greater ↦ (all.0, above_put z k xs less all.1)
    ]

above_too : (k x : List ℕ) (xs : List (List ℕ)) → R k x ≡ Less → AllByRecursion (λ y. R x y ≡ Less) xs → AllByRecursion (λ y. R k y ≡ Less) xs
above_too k x [] less all = tt
above_too k x (y ∷ xs) less all = (nat_list_cmp_total.trans k x y less all.0, above_too k x xs less all.1)

put_rises : (xs : List (List ℕ)) (k : List ℕ) → IsStrictlySortedBy R xs → IsStrictlySortedBy R (put xs k)
unfolding IsStrictlySortedBy
put_rises [] k rises = (tt, tt)
put_rises (x ∷ xs) k rises =
    elim (R k x) as (λ r. R k x ≡ r → IsStrictlySortedBy R (match_ordering r (k ∷ x ∷ xs) (x ∷ xs) (x ∷ put xs k))) [
      | Less ↦ λ e. ((e, above_too k x xs e rises.0), rises)
      | Equal ↦ λ e. rises
      | Greater ↦ λ e. (above_put x k xs (turned k x Greater e) rises.0, put_rises xs k rises.1)
    ] refl

among_rises : (sorted texts : List (List ℕ)) → IsStrictlySortedBy R sorted → IsStrictlySortedBy R (put_among sorted texts)
among_rises sorted [] rises = rises
among_rises sorted (t ∷ texts) rises = among_rises (put sorted t) texts (put_rises sorted t rises)

pub in_order_rises : (texts : List (List ℕ)) → IsStrictlySortedBy (slice_cmp nat_cmp) (in_order texts)
unfolding IsStrictlySortedBy
in_order_rises texts = among_rises [] texts tt

-- ---- each text stands there

twice : (b r : Bool) → (b || r) ≡ (b || (b || r))
twice true r = refl
twice false r = refl

or_swap : (a b r : Bool) → (a || (b || r)) ≡ (b || (a || r))
or_swap true true r = refl
or_swap true false r = refl
or_swap false b r = refl

any_put : (q k : List ℕ) (xs : List (List ℕ)) → list_any (bytes_eq q) (put xs k) ≡ (bytes_eq q k || list_any (bytes_eq q) xs)
any_put q k [] = refl
any_put q k (x ∷ xs) =
    elim (R k x) as (λ r. R k x ≡ r → list_any (bytes_eq q) (match_ordering r (k ∷ x ∷ xs) (x ∷ xs) (x ∷ put xs k)) ≡ (bytes_eq q k || (bytes_eq q x || list_any (bytes_eq q) xs))) [
      | Less ↦ λ e. refl
      | Equal ↦ λ e. twice (bytes_eq q x) _ ∙ ap (λ y. bytes_eq q y || (bytes_eq q x || list_any (bytes_eq q) xs)) (sym (exact k x e))
      | Greater ↦ λ e. ap (λ b. bytes_eq q x || b) (any_put q k xs) ∙ or_swap (bytes_eq q x) (bytes_eq q k) _
    ] refl

any_among : (q : List ℕ) (sorted texts : List (List ℕ)) → list_any (bytes_eq q) (put_among sorted texts) ≡ (list_any (bytes_eq q) texts || list_any (bytes_eq q) sorted)
any_among q sorted [] = refl
any_among q sorted (t ∷ texts) =
    any_among q (put sorted t) texts ∙ ap (λ b. list_any (bytes_eq q) texts || b) (any_put q t sorted)
    ∙ or_swap (list_any (bytes_eq q) texts) (bytes_eq q t) _ ∙ grouped (bytes_eq q t) (list_any (bytes_eq q) texts) _
  where
    grouped : (a b r : Bool) → (a || (b || r)) ≡ ((a || b) || r)
    grouped true b r = refl
    grouped false b r = refl

pub stands_in_order : (texts : List (List ℕ)) (q : List ℕ) → list_any (bytes_eq q) (in_order texts) ≡ list_any (bytes_eq q) texts
stands_in_order texts q = any_among q [] texts ∙ or_none (list_any (bytes_eq q) texts)
  where
    or_none : (b : Bool) → (b || false) ≡ b
    or_none true = refl
    or_none false = refl

pub ruleset in_their_order = (in_order_rises, stands_in_order)

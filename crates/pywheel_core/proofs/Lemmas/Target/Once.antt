-- Lists in which each element stands once.
use Rattle.std.proofs.Common.{◌≡◌, ℕ, zero, suc, ◌+◌, ◌<◌, ◌≤◌, Bool, true, false, ◌||◌, nat_le, List, [], ◌∷◌, ◌++◌, map, refl, sym, subst, ap, ◌∙◌, ◌⊎◌, inl, inr, fold, arith}
use Rattle.std.proofs.lemmas.Bool.{cases_Bool}
use Rattle.std.proofs.lemmas.Bool.Decides.{nat_tests}
use Rattle.std.specs.Cmp.{IsEquivalence}
use Rattle.std.specs.List.{AllByRecursion, IsDistinct, flat_map, list_any}
use Rattle.std.proofs.lemmas.List.{append-nil, append_assoc}
use Rattle.pywheel_core.proofs.TargetLemmas.{down_none}
use Rattle.pywheel_core.specs.Tag.{TagValue, is_among, tag_eq, triples, with_tag}
use Rattle.pywheel_core.specs.TagLaws.{same_tag, tag_equiv}
use Rattle.pywheel_core.specs.Target.Compatible.{IsOneOf}
use Rattle.pywheel_core.specs.Target.Platforms.{down}

-- each element stands once
abbrev pub IsOnce : {X : Type 0} → List X → Type 0
IsOnce [] = Unit {0}
IsOnce (x ∷ xs) = (IsOneOf x xs → ⊥) × IsOnce xs

-- ---- lists joined

pub in_append : {X : Type 0} (x : X) (xs ys : List X) → IsOneOf x (xs ++ ys) → IsOneOf x xs ⊎ IsOneOf x ys
in_append x [] ys h = inr h
in_append x (y ∷ xs) ys (inl e) = inl (inl e)
in_append x (y ∷ xs) ys (inr h) = elim (in_append x xs ys h) [ inl a ↦ inl (inr a) | inr b ↦ inr b ]

pub in_left : {X : Type 0} (x : X) (xs ys : List X) → IsOneOf x xs → IsOneOf x (xs ++ ys)
in_left x [] ys h = absurd h
in_left x (y ∷ xs) ys (inl e) = inl e
in_left x (y ∷ xs) ys (inr h) = inr (in_left x xs ys h)

pub in_right : {X : Type 0} (x : X) (xs ys : List X) → IsOneOf x ys → IsOneOf x (xs ++ ys)
in_right x [] ys h = h
in_right x (y ∷ xs) ys h = inr (in_right x xs ys h)

pub once_append : {X : Type 0} (xs ys : List X) → IsOnce xs → IsOnce ys → ((x : X) → IsOneOf x xs → IsOneOf x ys → ⊥) → IsOnce (xs ++ ys)
once_append [] ys a b apart = b
once_append (x ∷ xs) ys a b apart = (
  λ h. elim (in_append x xs ys h) [ inl p ↦ a.0 p | inr q ↦ apart x (inl refl) q ],
  once_append xs ys a.1 b (λ y p q. apart y (inr p) q),
)

-- ---- maps

pub in_map : {X Y : Type 0} (f : X → Y) (y : Y) (xs : List X) → IsOneOf y (map f xs) → (x : X) × IsOneOf x xs × (y ≡ f x)
in_map f y [] h = absurd h
in_map f y (x ∷ xs) (inl e) = (x, inl refl, e)
in_map f y (x ∷ xs) (inr h) = let r = in_map f y xs h in (r.0, inr r.1, r.2)

pub map_in : {X Y : Type 0} (f : X → Y) (y : Y) (x : X) (xs : List X) → IsOneOf x xs → y ≡ f x → IsOneOf y (map f xs)
map_in f y x [] h e = absurd h
map_in f y x (z ∷ xs) (inl p) e = inl (e ∙ ap f p)
map_in f y x (z ∷ xs) (inr p) e = inr (map_in f y x xs p e)

pub once_map : {X Y : Type 0} (f : X → Y) (xs : List X) → IsOnce xs → ((a b : X) → IsOneOf a xs → IsOneOf b xs → f a ≡ f b → a ≡ b) → IsOnce (map f xs)
once_map f [] o inj = tt
once_map f (x ∷ xs) o inj = (
  λ h. let r = in_map f (f x) xs h in o.0 (subst (λ z. IsOneOf z xs) (sym (inj x r.0 (inl refl) (inr r.1) r.2)) r.1),
  once_map f xs o.1 (λ a b p q. inj a b (inr p) (inr q)),
)

pub in_flat : {X Y : Type 0} (f : X → List Y) (y : Y) (xs : List X) → IsOneOf y (flat_map f xs) → (x : X) × IsOneOf x xs × IsOneOf y (f x)
in_flat f y [] h = absurd h
in_flat f y (x ∷ xs) h = elim (in_append y (f x) (flat_map f xs) h) [
  | inl p ↦ (x, inl refl, p)
  | inr q ↦ let r = in_flat f y xs q in (r.0, inr r.1, r.2)
]

pub flat_in : {X Y : Type 0} (f : X → List Y) (y : Y) (x : X) (xs : List X) → IsOneOf x xs → IsOneOf y (f x) → IsOneOf y (flat_map f xs)
flat_in f y x [] h p = absurd h
flat_in f y x (z ∷ xs) (inl e) p = in_left y (f z) (flat_map f xs) (subst (λ k. IsOneOf y (f k)) e p)
flat_in f y x (z ∷ xs) (inr h) p = in_right y (f z) (flat_map f xs) (flat_in f y x xs h p)

pub once_flat : {X Y : Type 0} (f : X → List Y) (xs : List X) → IsOnce xs → ((x : X) → IsOneOf x xs → IsOnce (f x))
    → ((a b : X) (y : Y) → IsOneOf a xs → IsOneOf b xs → IsOneOf y (f a) → IsOneOf y (f b) → a ≡ b) → IsOnce (flat_map f xs)
once_flat f [] o each apart = tt
once_flat f (x ∷ xs) o each apart = once_append (f x) (flat_map f xs) (each x (inl refl))
    (once_flat f xs o.1 (λ y p. each y (inr p)) (λ a b y p q. apart a b y (inr p) (inr q)))
    (λ y p q. let r = in_flat f y xs q in o.0 (subst (λ z. IsOneOf z xs) (sym (apart x r.0 y (inl refl) (inr r.1) p r.2)) r.1))

-- ---- numbers down to one

pub in_down : (low n k : ℕ) → IsOneOf k (down low n) → (low ≤ k) × (k < n)
unfolding down
in_down low zero k h = absurd h
in_down low (suc n) k h = elim (cases_Bool (nat_le low n)) [
  | inl e ↦ let g : IsOneOf k (n ∷ down low n) = rw e at h in elim g [
    | inl p ↦ (grind (arith, nat_tests), omega (arith, p))
    | inr q ↦ let r = in_down low n k q in (r.0, omega (arith, r.1))
  ]
  | inr e ↦ absurd (let g : IsOneOf k [] = rw e at h in g)
]

pub down_in : (low n k : ℕ) → low ≤ k → k < n → IsOneOf k (down low n)
unfolding down
down_in low zero k a b = absurd (omega arith)
down_in low (suc n) k a b =
    let e : nat_le low n ≡ true = grind (arith, nat_tests) in
    rw e (elim (cases_Bool (nat_le (suc k) n)) [
      | inl l ↦ inr (down_in low n k a (grind (arith, nat_tests)))
      | inr l ↦ inl (grind (arith, nat_tests))
    ])

pub once_down : (low n : ℕ) → IsOnce (down low n)
unfolding down
once_down low zero = tt
once_down low (suc n) = elim (cases_Bool (nat_le low n)) [
  | inl e ↦ rw e (λ h. let r = in_down low n n h in omega (arith, r.1), once_down low n)
  | inr e ↦ rw e tt
]

-- ---- triples

abbrev pub IsTriple : TagValue → List (List ℕ) → List (List ℕ) → List (List ℕ) → Type 0
IsTriple t pythons abis platforms = IsOneOf t.python pythons × IsOneOf t.abi abis × IsOneOf t.platform platforms

pub in_triples : (t : TagValue) (pythons abis platforms : List (List ℕ)) → IsOneOf t (triples pythons abis platforms) → IsTriple t pythons abis platforms
in_triples t pythons abis platforms h =
    let a = in_flat (λ python. flat_map (λ abi. map (λ platform. record { python = python; abi = abi; platform = platform }) platforms) abis) t pythons h in
    let b = in_flat (λ abi. map (λ platform. record { python = a.0; abi = abi; platform = platform }) platforms) t abis a.2 in
    let c = in_map (λ platform. record { python = a.0; abi = b.0; platform = platform }) t platforms b.2 in (
      subst (λ w. IsOneOf w pythons) (sym (ap (λ (x : TagValue). x.python) c.2)) a.1,
      subst (λ w. IsOneOf w abis) (sym (ap (λ (x : TagValue). x.abi) c.2)) b.1,
      subst (λ w. IsOneOf w platforms) (sym (ap (λ (x : TagValue). x.platform) c.2)) c.1,
    )

pub triples_in : (t : TagValue) (pythons abis platforms : List (List ℕ)) → IsTriple t pythons abis platforms → IsOneOf t (triples pythons abis platforms)
triples_in t pythons abis platforms h =
    flat_in (λ python. flat_map (λ abi. map (λ platform. record { python = python; abi = abi; platform = platform }) platforms) abis) t t.python pythons h.0
    (flat_in (λ abi. map (λ platform. record { python = t.python; abi = abi; platform = platform }) platforms) t t.abi abis h.1
    (map_in (λ platform. record { python = t.python; abi = t.abi; platform = platform }) t t.platform platforms h.2 refl))

pub once_triples : (pythons abis platforms : List (List ℕ)) → IsOnce pythons → IsOnce abis → IsOnce platforms → IsOnce (triples pythons abis platforms)
once_triples pythons abis platforms a b c =
    let of_abi = λ (python abi : List ℕ). map (λ platform. record { python = python; abi = abi; platform = platform }) platforms in
    once_flat (λ python. flat_map (of_abi python) abis) pythons a
    (λ python _. once_flat (of_abi python) abis b
    (λ abi _. once_map (λ platform. record { python = python; abi = abi; platform = platform }) platforms c (λ p q _ _ e. ap (λ (x : TagValue). x.platform) e))
    (λ x y t _ _ p q. let f = in_map _ t platforms p in let g = in_map _ t platforms q in ap (λ (k : TagValue). k.abi) (sym f.2 ∙ g.2)))
    (λ x y t _ _ p q.
    let f = in_flat (of_abi x) t abis p in let g = in_flat (of_abi y) t abis q in
    let h = in_map _ t platforms f.2 in let k = in_map _ t platforms g.2 in ap (λ (z : TagValue). z.python) (sym h.2 ∙ k.2))

-- ---- what std and the definitions of tags say of it

pub among_in : (t : TagValue) (tags : List TagValue) → is_among t tags ≡ true → IsOneOf t tags
among_in t [] h = absurd cc
among_in t (u ∷ tags) h = elim (cases_Bool (tag_eq t u)) [
  | inl e ↦ inl (same_tag t u e)
  | inr e ↦ inr (among_in t tags (rw e at h))
]

pub in_among : (t : TagValue) (tags : List TagValue) → IsOneOf t tags → is_among t tags ≡ true
in_among t [] h = absurd h
in_among t (u ∷ tags) (inl e) = let same : tag_eq t u ≡ true = subst (λ x. tag_eq t x ≡ true) e (tag_equiv.refl t) in rw same refl
in_among t (u ∷ tags) (inr h) = let rest = in_among t tags h in elim (cases_Bool (tag_eq t u)) [ inl e ↦ rw e refl | inr e ↦ rw e rest ]

apart_all : (t : TagValue) (tags : List TagValue) → (IsOneOf t tags → ⊥) → AllByRecursion (λ u. tag_eq t u ≡ false) tags
apart_all t [] h = tt
apart_all t (u ∷ tags) h = (
  elim (cases_Bool (tag_eq t u)) [ inl e ↦ absurd (h (inl (same_tag t u e))) | inr e ↦ e ],
  apart_all t tags (λ p. h (inr p)),
)

pub once_distinct : (tags : List TagValue) → IsOnce tags → IsDistinct tag_eq tags
unfolding IsDistinct
once_distinct [] o = tt
once_distinct (t ∷ tags) o = (apart_all t tags o.0, once_distinct tags o.1)

-- tags that stand once are put one behind the other
pub added_once : (front tags : List TagValue) → IsOnce (front ++ tags) → fold with_tag front tags ≡ front ++ tags
added_once front [] o = sym (append-nil front)
added_once front (t ∷ tags) o =
    let new : list_any (tag_eq t) front ≡ false = elim (cases_Bool (list_any (tag_eq t) front)) [
      | inl e ↦ absurd (once_apart t front tags o (among_in t front e))
      | inr e ↦ e
    ] in
    let more : with_tag front t ≡ front ++ t ∷ [] = rw new refl in
    ap (λ s. fold with_tag s tags) more
    ∙ added_once (front ++ t ∷ []) tags (subst IsOnce (sym (append_assoc front (t ∷ []) tags)) o) ∙ append_assoc front (t ∷ []) tags
  where
    once_apart : (t : TagValue) (front tags : List TagValue) → IsOnce (front ++ t ∷ tags) → IsOneOf t front → ⊥
    once_apart t [] tags o h = h
    once_apart t (u ∷ front) tags o (inl e) = o.0 (in_right u front (t ∷ tags) (inl (sym e)))
    once_apart t (u ∷ front) tags o (inr h) = once_apart t front tags o.1 h

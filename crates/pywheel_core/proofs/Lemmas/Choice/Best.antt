-- The pass over the wheels gives a place that is best as the statement over pairs of places says, and no other
-- place is.
use Rattle.std.proofs.Common.{◌≡◌, ◌≢◌, ◌⊎◌, ℕ, zero, suc, ◌+◌, ◌<◌, ◌≤◌, Bool, true, false, ◌==◌, ◌&&◌, ◌||◌, nat_lt, List, [], ◌∷◌, length, drop, slice_get, Option, Some, None, option_map, refl, sym, subst, ap, ◌∙◌, inl, inr, arith}
use Rattle.std.proofs.Math.Bool.{true≢false}
use Rattle.std.proofs.lemmas.Bool.Decides.{Decides-eqb, nat_tests}
use Rattle.std.proofs.lemmas.Option.{same_Some, slice_get_within}
use Rattle.std.specs.Cmp.{IsTotalOrder, nat_cmp_total, on_total, then_total}
use Rattle.std.specs.Cmp.Lexicographic.{nat_list_cmp_total, options_total}
use Rattle.std.specs.List.{Contains}
use Rattle.std.specs.Ordering.{is_lt, ordering_reverse}
use Rattle.std.specs.declared.cmp.Ordering.{Ordering}
use Rattle.std.specs.declared.cmp.Ordering.TheVariants.{Less, Equal, Greater}
use Rattle.std.proofs.lemmas.Bool.{and_parts, cases_Bool, or_cases, or_parts}
use Rattle.pywheel_core.specs.Choice.{ComesBehind, IsBest, IsCompatible, IsRank, Ranked, best, best_from, better, is_better, least_rank, rank_from, ranked}
use Rattle.pywheel_core.specs.Tag.{TagValue, rank_of}
use Rattle.pywheel_core.specs.Wheel.Build.{build_number, build_rest, builds_cmp}
use Rattle.pywheel_core.specs.Wheel.Value.{WheelValue}

-- ---- elements of a list

contains_none : {X : Type 0} (t : X) → Contains [] t → ⊥
contains_none t h = omega (arith, h.1)

contains_cons : {X : Type 0} (x : X) (xs : List X) (t : X) → Contains (x ∷ xs) t → (x ≡ t) ⊎ Contains xs t
contains_cons x xs t (zero, l, e) = inl e
contains_cons x xs t (suc k, l, e) = inr (k, omega (arith, l), e)

contains_here : {X : Type 0} (x : X) (xs : List X) → Contains (x ∷ xs) x
contains_here x xs = (0, omega arith, refl)

contains_there : {X : Type 0} (x : X) (xs : List X) (t : X) → Contains xs t → Contains (x ∷ xs) t
contains_there x xs t h = (suc h.0, omega (arith, h.1), h.2)

-- ---- the lesser of two ranks

least_none : (a m : Option ℕ) → least_rank a m ≡ None → (a ≡ None) × (m ≡ None)
least_none None m e = (refl, e)
least_none (Some a) None e = absurd cc
least_none (Some a) (Some b) e = elim (cases_Bool (nat_lt b a)) [ inl t ↦ absurd (let z : Some b ≡ None = rw t at e in cc) | inr t ↦ absurd (let z : Some a ≡ None = rw t at e in cc) ]

least_is : (a m : Option ℕ) (r : ℕ) → least_rank a m ≡ Some r → (a ≡ Some r) ⊎ (m ≡ Some r)
least_is None m r e = inr e
least_is (Some a) None r e = inl e
least_is (Some a) (Some b) r e = elim (cases_Bool (nat_lt b a)) [ inl t ↦ inr (rw t at e) | inr t ↦ inl (rw t at e) ]

least_below : (a m : Option ℕ) (s : ℕ) → (a ≡ Some s) ⊎ (m ≡ Some s) → (u : ℕ) × (least_rank a m ≡ Some u) × (u ≤ s)
least_below None m s (inl e) = absurd cc
least_below None m s (inr e) = (s, e, omega arith)
least_below (Some a) None s (inl e) = (s, e, omega arith)
least_below (Some a) None s (inr e) = absurd cc
least_below (Some a) (Some b) s (inl e) =
    let same : a ≡ s = same_Some a s e in
    elim (cases_Bool (nat_lt b a)) [
      | inl t ↦ (b, rw t refl, grind (arith, nat_tests, t, same))
      | inr t ↦ (a, rw t refl, omega (arith, same))
    ]
least_below (Some a) (Some b) s (inr e) =
    let same : b ≡ s = same_Some b s e in
    elim (cases_Bool (nat_lt b a)) [
      | inl t ↦ (b, rw t refl, omega (arith, same))
      | inr t ↦ (a, rw t refl, grind (arith, nat_tests, t, same))
    ]

-- ---- the best rank

-- what the least of a rank and those of some tags is
abbrev RankSays : Option ℕ → List TagValue → List TagValue → Option ℕ → Type 0
RankSays first own tags None = (first ≡ None) × ((t : TagValue) → Contains own t → rank_of t tags ≡ None)
RankSays first own tags (Some r) = ((first ≡ Some r) ⊎ ((t : TagValue) × Contains own t × (rank_of t tags ≡ Some r)))
    × ((t : TagValue) (s : ℕ) → Contains own t → rank_of t tags ≡ Some s → r ≤ s) × ((s : ℕ) → first ≡ Some s → r ≤ s)

rank_nil : (first : Option ℕ) (tags : List TagValue) → RankSays first [] tags first
rank_nil None tags = (refl, λ t h. absurd (contains_none t h))
rank_nil (Some r) tags = (inl refl, (λ t s h e. absurd (contains_none t h)), λ s e. let same : r ≡ s = same_Some r s e in omega (arith, same))

rank_cons : (first : Option ℕ) (t : TagValue) (own tags : List TagValue) (o : Option ℕ) → RankSays (least_rank first (rank_of t tags)) own tags o → RankSays first (t ∷ own) tags o
rank_cons first t own tags None h =
    let both = least_none first (rank_of t tags) h.0 in
    (both.0, λ u i. elim (contains_cons t own u i) [ inl e ↦ subst (λ v. rank_of v tags ≡ None) e both.1 | inr i2 ↦ h.1 u i2 ])
rank_cons first t own tags (Some r) h = (
  elim h.0 [
    | inl e ↦ elim (least_is first (rank_of t tags) r e) [ inl x ↦ inl x | inr x ↦ inr (t, contains_here t own, x) ]
    | inr x ↦ inr (x.0, contains_there t own x.0 x.1, x.2)
  ],
  (λ u s i e. elim (contains_cons t own u i) [
    | inl x ↦ let b = least_below first (rank_of t tags) s (inr (subst (λ v. rank_of v tags ≡ Some s) (sym x) e)) in let l = h.2 b.0 b.1 in omega (arith, l, b.2)
    | inr i2 ↦ h.1 u s i2 e
  ]),
  λ s e. let b = least_below first (rank_of t tags) s (inl e) in let l = h.2 b.0 b.1 in omega (arith, l, b.2),
)

rank_says : (first : Option ℕ) (own tags : List TagValue) → RankSays first own tags (rank_from first own tags)
unfolding rank_from
rank_says first [] tags = rank_nil first tags
rank_says first (t ∷ own) tags = rank_cons first t own tags _ (rank_says (least_rank first (rank_of t tags)) own tags)

one_rank : (own tags : List TagValue) (r s : ℕ) → IsRank own tags r → IsRank own tags s → r ≡ s
one_rank own tags r s x y =
    let low = x.least y.stands.0 s y.stands.1 y.stands.2 in
    let high = y.least x.stands.0 r x.stands.1 x.stands.2 in
    omega (arith, low, high)

-- ---- the order of builds

builds_total : IsTotalOrder builds_cmp
builds_total = options_total (then_total (on_total build_number nat_cmp_total) (on_total build_rest nat_list_cmp_total))

-- ---- what stands at one place

abbrev Says : List (Option WheelValue) → List TagValue → ℕ → Option Ranked → Type 0
Says wheels tags place None = (w : WheelValue) (rank : ℕ) → IsCompatible wheels tags place w rank → ⊥
Says wheels tags place (Some b) = (b.place ≡ place) × ((w : WheelValue) × (w.build ≡ b.build) × IsCompatible wheels tags place w b.rank)
    × ((v : WheelValue) (rank : ℕ) → IsCompatible wheels tags place v rank → (rank ≡ b.rank) × (v.build ≡ b.build))

wheel_says : (wheels : List (Option WheelValue)) (tags : List TagValue) (place : ℕ) (w : WheelValue) (o : Option ℕ) → slice_get wheels place ≡ Some (Some w)
    → RankSays None w.tags tags o → Says wheels tags place (option_map (λ rank. record { rank = rank; build = w.build; place = place }) o)
wheel_says wheels tags place w None at h = λ v rank x.
    let same : v ≡ w = same_Some v w (same_Some (Some v) (Some w) (sym x.0 ∙ at)) in
    let t = x.1.stands in
    absurd (let z : None ≡ Some rank = sym (h.1 t.0 (subst (λ u. Contains u.tags t.0) same t.1)) ∙ t.2 in cc)
wheel_says wheels tags place w (Some r) at h =
    let rank : IsRank w.tags tags r = record { stands = elim h.0 [ inl e ↦ absurd cc | inr x ↦ x ]; least = λ t s i e. h.1 t s i e } in (
      refl,
      (w, refl, (at, rank)),
      λ v s x.
          let same : v ≡ w = same_Some v w (same_Some (Some v) (Some w) (sym x.0 ∙ at)) in
          (one_rank w.tags tags s r (subst (λ u. IsRank u.tags tags s) same x.1) rank, ap (λ u. u.build) same),
    )

place_says : (wheels : List (Option WheelValue)) (tags : List TagValue) (place : ℕ) (x : Option WheelValue) → slice_get wheels place ≡ Some x → Says wheels tags place (ranked place x tags)
unfolding ranked
place_says wheels tags place None at = λ v rank y. absurd (let z : None ≡ Some v = same_Some None (Some v) (sym at ∙ y.0) in cc)
place_says wheels tags place (Some w) at = wheel_says wheels tags place w (rank_from None w.tags tags) at (rank_says None w.tags tags)

-- ---- the best so far

abbrev other_at : ℕ → WheelValue → ℕ → Ranked
other_at place v rank = record { rank = rank; build = v.build; place = place }

-- the best of the places below `n`
abbrev IsBestBelow : List (Option WheelValue) → List TagValue → ℕ → Option Ranked → Type 0
IsBestBelow wheels tags n None = (place : ℕ) (w : WheelValue) (rank : ℕ) → place < n → IsCompatible wheels tags place w rank → ⊥
IsBestBelow wheels tags n (Some b) = (b.place < n) × Says wheels tags b.place (Some b)
    × ((place : ℕ) (v : WheelValue) (rank : ℕ) → place < n → IsCompatible wheels tags place v rank → place ≢ b.place → ComesBehind b (other_at place v rank))

-- a place is below another or is it
below_or_at : (place n : ℕ) → place < suc n → (place < n) ⊎ (place ≡ n)
below_or_at place n l = elim (cases_Bool (nat_lt place n)) [ inl t ↦ inl (grind (arith, nat_tests, t)) | inr t ↦ inr (grind (arith, nat_tests, t, l)) ]

reversed : (x y : Option (List ℕ)) (o : Ordering) → builds_cmp x y ≡ o → builds_cmp y x ≡ ordering_reverse o
reversed x y o e = builds_total.antisymm y x ∙ ap ordering_reverse e

lt_less : (o : Ordering) → is_lt o ≡ true → o ≡ Less
lt_less Less e = refl
lt_less o e = absurd (true≢false (sym e))

not_lt : (o : Ordering) → is_lt o ≡ false → (o ≡ Equal) ⊎ (o ≡ Greater)
not_lt Less e = absurd (true≢false e)
not_lt Equal e = inl refl
not_lt Greater e = inr refl

better_means : (first later : Ranked) → is_better later first ≡ true → (later.rank < first.rank) ⊎ ((later.rank ≡ first.rank) × (builds_cmp first.build later.build ≡ Less))
better_means first later t = elim (or_cases (nat_lt later.rank first.rank) ((later.rank == first.rank) && is_lt (builds_cmp first.build later.build)) t) [
  | inl e ↦ inl (grind (arith, nat_tests, e))
  | inr e ↦ let p = and_parts (later.rank == first.rank) (is_lt (builds_cmp first.build later.build)) e in
      inr ((Decides-eqb later.rank first.rank).0 p.0, lt_less (builds_cmp first.build later.build) p.1)
]

-- what is behind the first is behind a better one
behind_better : (first later other : Ranked) → is_better later first ≡ true → ComesBehind first other → ComesBehind later other
behind_better first later other t h = elim (better_means first later t) [
  | inl l ↦ elim h [
    | inl m ↦ inl (omega (arith, l, m))
    | inr x ↦ elim x [ inl p ↦ inl (let e = p.0 in omega (arith, l, e)) | inr p ↦ inl (let e = p.0 in omega (arith, l, e)) ]
  ]
  | inr same ↦ elim h [
    | inl m ↦ inl (let e = same.0 in omega (arith, e, m))
    | inr x ↦ elim x [
      | inl p ↦ inr (inl (same.0 ∙ p.0, builds_total.trans other.build first.build later.build p.1 same.1))
      | inr p ↦ inr (inl (same.0 ∙ p.0, builds_total.congr other.build first.build later.build p.1 ∙ same.1))
    ]
  ]
]

-- the first is behind a better one
first_behind : (first later : Ranked) → is_better later first ≡ true → ComesBehind later first
first_behind first later t = elim (better_means first later t) [ inl l ↦ inl l | inr same ↦ inr (inl same) ]

-- a later one that isn't better is behind
later_behind : (first later : Ranked) → first.place < later.place → is_better later first ≡ false → ComesBehind first later
later_behind first later l t =
    let p = or_parts (nat_lt later.rank first.rank) ((later.rank == first.rank) && is_lt (builds_cmp first.build later.build)) t in
    let low = p.0 in
    elim (cases_Bool (later.rank == first.rank)) [
      | inl e ↦
          let same : first.rank ≡ later.rank = sym ((Decides-eqb later.rank first.rank).0 e) in
          let rest : is_lt (builds_cmp first.build later.build) ≡ false = rw e at p.1 in
          elim (not_lt (builds_cmp first.build later.build) rest) [
            | inl equal ↦ inr (inr (same, reversed first.build later.build Equal equal, l))
            | inr greater ↦ inr (inl (same, reversed first.build later.build Greater greater))
          ]
      | inr e ↦ inl (grind (arith, nat_tests, e, low))
    ]

-- one place more
step : (wheels : List (Option WheelValue)) (tags : List TagValue) (n : ℕ) (first o : Option Ranked) → IsBestBelow wheels tags n first → Says wheels tags n o → IsBestBelow wheels tags (suc n) (better first o)
step wheels tags n None None h s = λ place w rank l x. elim (below_or_at place n l) [
  | inl a ↦ h place w rank a x
  | inr e ↦ s w rank (subst (λ p. IsCompatible wheels tags p w rank) e x)
]
step wheels tags n None (Some b) h s =
    let e = s.0 in (
      omega (arith, e),
      subst (λ p. Says wheels tags p (Some b)) (sym s.0) s,
      λ place v rank l x other. elim (below_or_at place n l) [
        | inl a ↦ absurd (h place v rank a x)
        | inr q ↦ absurd (other (q ∙ sym s.0))
      ],
    )
step wheels tags n (Some a) None h s =
    let l0 = h.0 in (
      omega (arith, l0),
      h.1,
      λ place v rank l x other. elim (below_or_at place n l) [
        | inl k ↦ h.2 place v rank k x other
        | inr q ↦ absurd (s v rank (subst (λ p. IsCompatible wheels tags p v rank) q x))
      ],
    )
step wheels tags n (Some a) (Some b) h s =
    let l0 = h.0 in let e = s.0 in
    elim (cases_Bool (is_better b a)) [
      | inl t ↦ rw t (
        omega (arith, e),
        subst (λ p. Says wheels tags p (Some b)) (sym s.0) s,
        λ place v rank l x other. elim (below_or_at place n l) [
          | inl k ↦ elim (cases_Bool (place == a.place)) [
            | inl q ↦
                let there : place ≡ a.place = (Decides-eqb place a.place).0 q in
                let same = h.1.2 v rank (subst (λ p. IsCompatible wheels tags p v rank) there x) in
                let it : other_at place v rank ≡ a = λ i. record { rank = same.0 i; build = same.1 i; place = there i } in
                subst (ComesBehind b) (sym it) (first_behind a b t)
            | inr q ↦ behind_better a b (other_at place v rank) t (h.2 place v rank k x (λ z. true≢false (sym ((Decides-eqb place a.place).1 z) ∙ q)))
          ]
          | inr q ↦ absurd (other (q ∙ sym s.0))
        ],
      )
      | inr t ↦ rw t (
        omega (arith, l0),
        h.1,
        λ place v rank l x other. elim (below_or_at place n l) [
          | inl k ↦ h.2 place v rank k x other
          | inr q ↦
              let same = s.2 v rank (subst (λ p. IsCompatible wheels tags p v rank) q x) in
              let it : other_at place v rank ≡ b = λ i. record { rank = same.0 i; build = same.1 i; place = (q ∙ sym s.0) i } in
              subst (ComesBehind a) (sym it) (later_behind a b (omega (arith, l0, e)) t)
        ],
      )
    ]

-- ---- the whole pass

drop_head : {X : Type 0} (xs : List X) (n : ℕ) (x : X) (rest : List X) → drop n xs ≡ x ∷ rest → (slice_get xs n ≡ Some x) × (drop (suc n) xs ≡ rest)
drop_head [] zero x rest e = absurd cc
drop_head [] (suc n) x rest e = absurd cc
drop_head (y ∷ xs) zero x rest e = (let z : y ≡ x = cc in ap Some z, let z : xs ≡ rest = cc in z)
drop_head (y ∷ xs) (suc n) x rest e = drop_head xs n x rest e

walk : (wheels : List (Option WheelValue)) (tags : List TagValue) (rest : List (Option WheelValue)) (n : ℕ) (first : Option Ranked)
    → drop n wheels ≡ rest → n + length rest ≡ length wheels → IsBestBelow wheels tags n first → IsBestBelow wheels tags (length wheels) (best_from first n rest tags)
unfolding best_from
walk wheels tags [] n first d k h = let z : n ≡ length wheels = omega (arith, k) in subst (λ m. IsBestBelow wheels tags m first) z h
walk wheels tags (x ∷ rest) n first d k h =
    let p = drop_head wheels n x rest d in
    walk wheels tags rest (suc n) (better first (ranked n x tags)) p.1 (omega (arith, k)) (step wheels tags n first (ranked n x tags) h (place_says wheels tags n x p.0))

from_below : (wheels : List (Option WheelValue)) (tags : List TagValue) (o : Option Ranked) → IsBestBelow wheels tags (length wheels) o → IsBest wheels tags (option_map (λ r. r.place) o)
from_below wheels tags None h = λ place w rank x. h place w rank (slice_get_within wheels place (Some w) x.0) x
from_below wheels tags (Some b) h =
    let found = h.1.1 in (
      found.0,
      b.rank,
      found.2,
      λ place v rank x other. subst (λ build. ComesBehind (record { rank = b.rank; build = build; place = b.place }) (other_at place v rank)) (sym found.1)
          (h.2 place v rank (slice_get_within wheels place (Some v) x.0) x other),
    )

pub is_best : (wheels : List (Option WheelValue)) (tags : List TagValue) → IsBest wheels tags (best wheels tags)
unfolding best
is_best wheels tags = from_below wheels tags (best_from None 0 wheels tags)
    (walk wheels tags wheels 0 None refl (omega arith) (λ place w rank l x. absurd (omega (arith, l))))

-- ---- no other place is best

behind_once : (p q : Ranked) → ComesBehind p q → ComesBehind q p → ⊥
behind_once p q h g = elim h [
  | inl l ↦ elim g [
    | inl m ↦ omega (arith, l, m)
    | inr y ↦ elim y [ inl z ↦ (let e = z.0 in omega (arith, l, e)) | inr z ↦ (let e = z.0 in omega (arith, l, e)) ]
  ]
  | inr x ↦ elim x [
    | inl z ↦ elim g [
      | inl m ↦ (let e = z.0 in omega (arith, m, e))
      | inr y ↦ elim y [
        | inl u ↦ (let back : builds_cmp p.build q.build ≡ Greater = reversed q.build p.build Less z.1 in let e : Greater ≡ Less = sym back ∙ u.1 in cc)
        | inr u ↦ (let back : builds_cmp p.build q.build ≡ Greater = reversed q.build p.build Less z.1 in let e : Greater ≡ Equal = sym back ∙ u.1 in cc)
      ]
    ]
    | inr z ↦ elim g [
      | inl m ↦ (let e = z.0 in omega (arith, m, e))
      | inr y ↦ elim y [
        | inl u ↦ (let back : builds_cmp p.build q.build ≡ Equal = reversed q.build p.build Equal z.1 in let e : Equal ≡ Less = sym back ∙ u.1 in cc)
        | inr u ↦ (let e = z.2 in let f = u.2 in omega (arith, e, f))
      ]
    ]
  ]
]

one_best : (wheels : List (Option WheelValue)) (tags : List TagValue) (p q : Option ℕ) → IsBest wheels tags p → IsBest wheels tags q → p ≡ q
one_best wheels tags None None x y = refl
one_best wheels tags None (Some q) x y = absurd (x q y.0 y.1 y.2)
one_best wheels tags (Some p) None x y = absurd (y p x.0 x.1 x.2)
one_best wheels tags (Some p) (Some q) x y = elim (cases_Bool (p == q)) [
  | inl e ↦ ap Some ((Decides-eqb p q).0 e)
  | inr e ↦
      let other : p ≡ q → ⊥ = λ z. true≢false (sym ((Decides-eqb p q).1 z) ∙ e) in
      absurd (behind_once (other_at p x.0 x.1) (other_at q y.0 y.1)
      (x.3 q y.0 y.1 y.2 (λ z. other (sym z))) (y.3 p x.0 x.1 x.2 other))
]

pub best_is_one : (wheels : List (Option WheelValue)) (tags : List TagValue) (p : Option ℕ) → IsBest wheels tags p → p ≡ best wheels tags
best_is_one wheels tags p h = one_best wheels tags p (best wheels tags) h (is_best wheels tags)

pub given_best : (wheels : List (Option WheelValue)) (tags : List TagValue) (p : Option ℕ) → p ≡ best wheels tags → IsBest wheels tags p
given_best wheels tags p is = subst (IsBest wheels tags) (sym is) (is_best wheels tags)

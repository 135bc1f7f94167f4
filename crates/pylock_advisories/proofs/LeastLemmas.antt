-- The least of versions is one of them, and none of them stands before it.
use Rattle.std.proofs.Common.{◌≡◌, ◌∙◌, ◌||◌, ◌⊎◌, Bool, true, false, List, [], ◌∷◌, Option, Some, None, refl, ap, inl, inr, arith}
use Rattle.std.specs.Cmp.{tied_itself}
use Rattle.std.specs.List.{Contains, fold, list_any}
use Rattle.std.specs.Ordering.{is_lt}
use Rattle.std.proofs.lemmas.List.Elements.{Contains-append_right}
use Rattle.pyver_core.specs.Version.Order.{is_before}
use Rattle.pyver_core.specs.Version.OrderLaws.{version_total}
use Rattle.pyver_core.specs.Version.Parts.{Parts}
use Rattle.pylock_advisories.specs.Evaluation.{least, lesser}
use Rattle.pylock_advisories.proofs.OrderLemmas.{le_le, lt_back}

abbrev Below : Option Parts → Parts → Type 0
Below None v = Unit {0}
Below (Some b) v = is_before b v ≡ false

some_same : (b v : Parts) → Some b ≡ Some v → b ≡ v
some_same b v e = cc

here : (f v : Parts) (fs : List Parts) → f ≡ v → Contains (f ∷ fs) v
here f v fs e = (0, omega arith, e)

itself : (v : Parts) → is_before v v ≡ false
itself v = ap is_lt (tied_itself version_total v)

lower : (b f : Parts) (fs : List Parts) (v : Parts)
    → (fold lesser (Some f) fs ≡ Some v → (is_before f v ≡ false) × (list_any (λ w. is_before w v) fs ≡ false))
    → (fold lesser (Some b) fs ≡ Some v → (is_before b v ≡ false) × (list_any (λ w. is_before w v) fs ≡ false))
    → (x : Bool) → is_before f b ≡ x → fold lesser (lesser (Some b) f) fs ≡ Some v
    → (is_before b v ≡ false) × (list_any (λ w. is_before w v) (f ∷ fs) ≡ false)
lower b f fs v first second true e h =
    let on = first (rw e at h) in
    (le_le version_total v f b on.0 (lt_back version_total f b e), ap (λ x. x || list_any (λ w. is_before w v) fs) on.0 ∙ on.1)
lower b f fs v first second false e h =
    let on = second (rw e at h) in
    (on.0, ap (λ x. x || list_any (λ w. is_before w v) fs) (le_le version_total v b f on.0 e) ∙ on.1)

none_below : (best : Option Parts) (fs : List Parts) (v : Parts) → fold lesser best fs ≡ Some v
    → Below best v × (list_any (λ w. is_before w v) fs ≡ false)
none_below None [] v h = absurd cc
none_below (Some b) [] v h = (ap (λ x. is_before x v) (some_same b v h) ∙ itself v, refl)
none_below None (f ∷ fs) v h =
    let on = none_below (Some f) fs v h in
    (tt, ap (λ x. x || list_any (λ w. is_before w v) fs) on.0 ∙ on.1)
none_below (Some b) (f ∷ fs) v h = lower b f fs v (none_below (Some f) fs v) (none_below (Some b) fs v) (is_before f b) refl h

-- none of the versions stands before the least
pub least_is_lowest : (versions : List Parts) (v : Parts) → least versions ≡ Some v → list_any (λ w. is_before w v) versions ≡ false
least_is_lowest versions v h = (none_below None versions v h).1

either : (b f : Parts) (fs : List Parts) (v : Parts)
    → (fold lesser (Some f) fs ≡ Some v → (Some f ≡ Some v) ⊎ Contains fs v)
    → (fold lesser (Some b) fs ≡ Some v → (Some b ≡ Some v) ⊎ Contains fs v)
    → (x : Bool) → is_before f b ≡ x → fold lesser (lesser (Some b) f) fs ≡ Some v
    → (Some b ≡ Some v) ⊎ Contains (f ∷ fs) v
either b f fs v first second true e h = elim (first (rw e at h)) [
  | inl is ↦ inr (here f v fs (some_same f v is))
  | inr there ↦ inr (Contains-append_right (f ∷ []) fs v there)
]
either b f fs v first second false e h = elim (second (rw e at h)) [
  | inl is ↦ inl is
  | inr there ↦ inr (Contains-append_right (f ∷ []) fs v there)
]

one_of : (best : Option Parts) (fs : List Parts) (v : Parts) → fold lesser best fs ≡ Some v → (best ≡ Some v) ⊎ Contains fs v
one_of best [] v h = inl h
one_of None (f ∷ fs) v h = elim (one_of (Some f) fs v h) [
  | inl is ↦ inr (here f v fs (some_same f v is))
  | inr there ↦ inr (Contains-append_right (f ∷ []) fs v there)
]
one_of (Some b) (f ∷ fs) v h = either b f fs v (one_of (Some f) fs v) (one_of (Some b) fs v) (is_before f b) refl h

-- the least is one of the versions
pub least_is_given : (versions : List Parts) (v : Parts) → least versions ≡ Some v → Contains versions v
least_is_given versions v h = elim (one_of None versions v h) [ inl is ↦ absurd cc | inr there ↦ there ]

-- Chains of `<` and `<=` in a total order.
use Rattle.std.proofs.Common.{◌≡◌, ◌∙◌, Bool, true, false, refl, ap, sym}
use Rattle.std.specs.Cmp.{IsTotalOrder, alike_right}
use Rattle.std.specs.Ordering.{is_lt, ordering_reverse}
use Rattle.std.specs.declared.cmp.Ordering.{Ordering}
use Rattle.std.specs.declared.cmp.Ordering.TheVariants.{Less, Equal, Greater}

less : (r : Ordering) → is_lt r ≡ true → r ≡ Less
less Less h = refl
less Equal h = absurd cc
less Greater h = absurd cc

module _ {K : Type 0} {R : K → K → Ordering} (o : IsTotalOrder R) where
  after_by : (x y z : K) (r : Ordering) → R y x ≡ r → is_lt r ≡ false → is_lt (R y z) ≡ true → is_lt (R x z) ≡ true
  after_by x y z Less e h k = absurd cc
  after_by x y z Equal e h k = ap is_lt (sym (o.congr y x z e)) ∙ k
  after_by x y z Greater e h k = ap is_lt (o.trans x y z (o.antisymm x y ∙ ap ordering_reverse e) (less (R y z) k))

  -- x <= y and y < z
  pub le_lt : (x y z : K) → is_lt (R y x) ≡ false → is_lt (R y z) ≡ true → is_lt (R x z) ≡ true
  le_lt x y z = after_by x y z (R y x) refl

  before_by : (x y z : K) (r : Ordering) → R z y ≡ r → is_lt r ≡ false → is_lt (R x y) ≡ true → is_lt (R x z) ≡ true
  before_by x y z Less e h k = absurd cc
  before_by x y z Equal e h k = ap is_lt (alike_right o z y x e) ∙ k
  before_by x y z Greater e h k = ap is_lt (o.trans x y z (less (R x y) k) (o.antisymm y z ∙ ap ordering_reverse e))

  -- x < y and y <= z
  pub lt_le : (x y z : K) → is_lt (R x y) ≡ true → is_lt (R z y) ≡ false → is_lt (R x z) ≡ true
  lt_le x y z k h = before_by x y z (R z y) refl h k

  turned : (x y : K) (r : Ordering) → R x y ≡ r → is_lt r ≡ true → is_lt (R y x) ≡ false
  turned x y Less e h = ap is_lt (o.antisymm y x ∙ ap ordering_reverse e)
  turned x y Equal e h = absurd cc
  turned x y Greater e h = absurd cc

  -- x < y is not y < x
  pub lt_back : (x y : K) → is_lt (R x y) ≡ true → is_lt (R y x) ≡ false
  lt_back x y = turned x y (R x y) refl

  -- x <= y and y <= z
  pub le_le : (x y z : K) → is_lt (R y x) ≡ false → is_lt (R z y) ≡ false → is_lt (R z x) ≡ false
  le_le x y z h k = by (is_lt (R z x)) refl
    where
      by : (b : Bool) → is_lt (R z x) ≡ b → is_lt (R z x) ≡ false
      by false e = e
      by true e = absurd (let more : is_lt (R z y) ≡ true = lt_le z x y e h in cc)

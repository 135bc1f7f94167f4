-- What was introduced last is all that counts: what ends it also ends what was introduced before.
use Rattle.std.proofs.Common.{◌≡◌, ◌∙◌, ◌&&◌, ◌||◌, Bool, true, false, not, List, [], ◌∷◌, Option, Some, None, refl, ap}
use Rattle.std.specs.List.{fold, list_any}
use Rattle.pyver_core.specs.Version.Order.{is_before}
use Rattle.pyver_core.specs.Version.OrderLaws.{version_total}
use Rattle.pyver_core.specs.Version.Parts.{Parts}
use Rattle.pylock_advisories.specs.Advisory.{RangeValue}
use Rattle.pylock_advisories.specs.Evaluation.{fixes, is_last, is_open_from}
use Rattle.pylock_advisories.specs.Latest.{is_open_from_latest, is_open_from_some, later}
use Rattle.pylock_advisories.proofs.OrderLemmas.{le_le, le_lt, lt_back}

or_mono : (a b c d : Bool) → (a ≡ true → c ≡ true) → (b ≡ true → d ≡ true) → (a || b) ≡ true → (c || d) ≡ true
or_mono true b c d f g h = ap (λ x. x || d) (f refl)
or_mono false true c d f g h = ap (λ x. c || x) (g refl) ∙ by c
  where
    by : (c : Bool) → (c || true) ≡ true
    by true = refl
    by false = refl
or_mono false false c d f g h = absurd cc

-- what passes a test passes a weaker one
pub any_weaker : {X : Type 0} (p q : X → Bool) → ((x : X) → p x ≡ true → q x ≡ true) → (xs : List X) → list_any p xs ≡ true → list_any q xs ≡ true
any_weaker p q weaker [] h = h
any_weaker p q weaker (x ∷ xs) h = or_mono _ _ _ _ (weaker x) (any_weaker p q weaker xs) h

or_kept : (x y : Bool) → (y ≡ true → x ≡ true) → x ≡ (x || y)
or_kept true y h = refl
or_kept false true h = absurd (let no : false ≡ true = h refl in cc)
or_kept false false h = refl

or_taken : (x y : Bool) → (x ≡ true → y ≡ true) → y ≡ (x || y)
or_taken true y h = h refl
or_taken false y h = refl

and_mono : (a b c d : Bool) → (a ≡ true → c ≡ true) → (b ≡ true → d ≡ true) → (a && b) ≡ true → (c && d) ≡ true
and_mono true true c d f g h = ap (λ x. x && d) (f refl) ∙ g refl
and_mono true false c d f g h = absurd cc
and_mono false b c d f g h = absurd cc

not_mono : (a b : Bool) → (a ≡ true → b ≡ true) → not b ≡ true → not a ≡ true
not_mono true b f h = absurd (let yes : b ≡ true = f refl in let no : not b ≡ false = ap not yes in cc)
not_mono false b f h = refl

module _ (v : Parts) (r : RangeValue) where
  abbrev ends : Parts → Bool
  ends e = list_any (fixes e v) r.fixed || list_any (is_last e v) r.last_affected

  -- what ends b ends a, which stands at or before it
  ends_before : (a b : Parts) → is_before b a ≡ false → ends b ≡ true → ends a ≡ true
  ends_before a b h =
      or_mono _ _ _ _
      (any_weaker (fixes b v) (fixes a v) (λ f. and_mono _ _ _ _ (le_lt version_total a b f h) (λ e. e)) r.fixed)
      (any_weaker (is_last b v) (is_last a v)
      (λ l. and_mono _ _ _ _ (not_mono _ _ (λ e. unreached l e)) (λ e. e)) r.last_affected)
    where
      -- l < a is l < b
      unreached : (l : Parts) → is_before l a ≡ true → is_before l b ≡ true
      unreached l e = by (is_before l b) refl
        where
          by : (x : Bool) → is_before l b ≡ x → is_before l b ≡ true
          by true k = k
          by false k = absurd (let no : is_before l a ≡ false = le_le version_total a b l h k in cc)

  open_later : (a b : Parts) → is_before b a ≡ false → not (ends a) ≡ true → not (ends b) ≡ true
  open_later a b h = not_mono (ends b) (ends a) (ends_before a b h)

  abbrev Reached : Option Parts → Type 0
  Reached None = Unit {0}
  Reached (Some e) = is_before v e ≡ false

  abbrev Steps : Option Parts → Parts → Type 0
  Steps best e = is_open_from_some v r (later v best e) ≡ (is_open_from_some v r best || is_open_from v r e)

  step_none : (e : Parts) (x : Bool) → is_before v e ≡ x → Steps None e × Reached (later v None e)
  step_none e true h = (rw h refl, rw h tt)
  step_none e false h = (rw h refl, rw h h)

  step_some : (b e : Parts) → is_before v b ≡ false → (x : Bool) → is_before v e ≡ x → (y : Bool) → is_before b e ≡ y
      → Steps (Some b) e × Reached (later v (Some b) e)
  step_some b e reached true h y k = (rw h (or_kept (not (ends b)) false (λ no. absurd cc)), rw h reached)
  step_some b e reached false h true k =
      (rw (h, k) (or_taken (not (ends b)) (not (ends e)) (open_later b e (lt_back version_total b e k))), rw (h, k) h)
  step_some b e reached false h false k =
      (rw (h, k) (or_kept (not (ends b)) (not (ends e)) (open_later e b k)), rw (h, k) reached)

  step : (best : Option Parts) (e : Parts) → Reached best → Steps best e × Reached (later v best e)
  step None e reached = step_none e (is_before v e) refl
  step (Some b) e reached = step_some b e reached (is_before v e) refl (is_before b e) refl

  or_assoc : (x y z : Bool) → ((x || y) || z) ≡ (x || (y || z))
  or_assoc true y z = refl
  or_assoc false y z = refl

  folded : (best : Option Parts) (es : List Parts) → Reached best
      → is_open_from_some v r (fold (later v) best es) ≡ (is_open_from_some v r best || list_any (is_open_from v r) es)
  folded best [] reached = or_kept (is_open_from_some v r best) false (λ no. absurd cc)
  folded best (e ∷ es) reached =
      let on = step best e reached in
      folded (later v best e) es on.1
      ∙ ap (λ x. x || list_any (is_open_from v r) es) on.0
      ∙ or_assoc (is_open_from_some v r best) (is_open_from v r e) (list_any (is_open_from v r) es)

  -- what was introduced last decides
  pub last_decides : is_open_from_latest v r ≡ list_any (is_open_from v r) r.introduced
  last_decides = folded None r.introduced tt

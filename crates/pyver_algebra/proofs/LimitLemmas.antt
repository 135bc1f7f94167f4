-- Cuts in their order, and limits that are added.
use Rattle.std.proofs.Common.{◌≡◌, inl, inr, Bool, true, false, List, [], ◌∷◌, ◌++◌, Option, Some, refl, sym, ap, ◌∙◌}
use Rattle.std.specs.Prelude.{◌&&◌, ◌||◌, not, if◌then◌else◌}
use Rattle.std.specs.List.{list_all, list_any}
use Rattle.std.specs.Ordering.{is_gt, is_lt}
use Rattle.std.specs.declared.cmp.Ordering.{Ordering}
use Rattle.std.specs.declared.cmp.Ordering.TheVariants.{Less, Equal, Greater}
use Rattle.std.proofs.lemmas.Bool.{and_from, and_parts, or_cases}
use Rattle.pyver_core.specs.Version.Order.{version_cmp}
use Rattle.pyver_core.specs.Version.OrderLaws.{version_total}
use Rattle.pyver_core.specs.Version.Parts.{Parts, public_part}
use Rattle.pyver_algebra.specs.declared.limit.Cut.{Cut}
use Rattle.pyver_algebra.specs.declared.limit.Limit.{Limit}
use Rattle.pyver_algebra.specs.declared.limit.Limit.TheVariants.{Until}
use Rattle.pyver_algebra.specs.Limits.{comes_first, ends_before, is_at_or_before, is_past, is_past_lowest, lies_within, Keeps}
use Rattle.pyver_algebra.proofs.OrderLemmas.{before_upto, turned_lt}

-- what lies past a cut, by the order of its version and the version asked of
past_by : Bool → Ordering → Bool
past_by after r = if after then is_lt r else not (is_gt r)

past_is : (cut : Cut) (c : Parts) → is_past cut c ≡ past_by cut.after (version_cmp cut.version (public_part c))
unfolding past_by
past_is cut c = ap (λ b. if cut.after then is_lt (version_cmp cut.version (public_part c)) else not b) (turned_lt version_total (public_part c) cut.version)

-- what lies past a cut lies past an earlier one
lower_ties : (a b : Bool) (r : Ordering) → (not a || b) ≡ true → past_by b r ≡ true → past_by a r ≡ true
unfolding past_by
lower_ties false true Less tie past = refl
lower_ties false true Equal tie past = cc past
lower_ties false true Greater tie past = cc past
lower_ties false false r tie past = past
lower_ties true true r tie past = past
lower_ties true false r tie past = cc tie

past_Less : (a : Bool) (r : Ordering) → r ≡ Less → past_by a r ≡ true
unfolding past_by
past_Less true r e = ap is_lt e
past_Less false r e = ap (λ (o : Ordering). not (is_gt o)) e

not_Greater : (b : Bool) (r : Ordering) → past_by b r ≡ true → is_gt r ≡ false
unfolding past_by
not_Greater b Less e = refl
not_Greater b Equal e = refl
not_Greater true Greater e = cc e
not_Greater false Greater e = cc e

pub past_earlier : (a b : Cut) (c : Parts) → is_at_or_before a b ≡ true → is_past b c ≡ true → is_past a c ≡ true
past_earlier a b c first past =
    past_is a c ∙ by (version_cmp a.version b.version) refl first (sym (past_is b c) ∙ past)
  where
    by : (r : Ordering) → version_cmp a.version b.version ≡ r → comes_first (version_cmp a.version b.version) (not a.after || b.after) ≡ true
        → past_by b.after (version_cmp b.version (public_part c)) ≡ true → past_by a.after (version_cmp a.version (public_part c)) ≡ true
    by Less is first past =
        past_Less a.after _ (before_upto version_total a.version b.version (public_part c) _ refl is (not_Greater b.after _ past))
    by Equal is first past =
        let same : version_cmp a.version (public_part c) ≡ version_cmp b.version (public_part c) = version_total.congr a.version b.version (public_part c) is in
        ap (past_by a.after) same ∙ lower_ties a.after b.after _ (rw is at first) past
    by Greater is first past = let e : false ≡ true = rw is at first in cc e

-- what doesn't lie in a step past a cut, where the step begins no later than that, comes before the cut or behind the step
pub outside_of : (low begin end : Cut) (c : Parts) → is_at_or_before begin low ≡ true
    → (is_past low c && (is_past begin c && not (is_past end c))) ≡ false → (not (is_past low c) || is_past end c) ≡ true
outside_of low begin end c first out = by (is_past low c) (is_past end c) refl out
  where
    by : (b x : Bool) → is_past low c ≡ b → (b && (is_past begin c && not x)) ≡ false → (not b || x) ≡ true
    by false x is out = refl
    by true true is out = refl
    by true false is out =
        let past : is_past begin c ≡ true = past_earlier begin low c first is in
        let e : (true && (true && not false)) ≡ false = rw past at out in
        cc e

-- one more limit
all_more : {X : Type 0} (test : X → Bool) (xs : List X) (x : X) → list_all test (xs ++ x ∷ []) ≡ (list_all test xs && test x)
all_more test [] x = and_true (test x)
  where
    and_true : (b : Bool) → (b && true) ≡ (true && b)
    and_true true = refl
    and_true false = refl
all_more test (y ∷ ys) x = ap (λ b. test y && b) (all_more test ys x) ∙ assoc (test y) (list_all test ys) (test x)
  where
    assoc : (a b c : Bool) → (a && (b && c)) ≡ ((a && b) && c)
    assoc true b c = refl
    assoc false b c = refl

pub keeps_more : (limits : List Limit) (limit : Limit) (c : Parts) → Keeps limits c → lies_within limit c ≡ true → Keeps (limits ++ limit ∷ []) c
keeps_more limits limit c old new = all_more (λ l. lies_within l c) limits limit ∙ and_from _ _ old new

-- a version past the lowest cut keeps no limit that ends before it
ended : (lowest : Option Cut) (limit : Limit) (c : Parts) → ends_before lowest limit ≡ true → lies_within limit c ≡ true
    → is_past_lowest lowest c ≡ true → ⊥
ended (Some low) (Until cut) c e within past = not_both (is_past cut c) within (past_earlier cut low c e past)
  where
    not_both : (b : Bool) → not b ≡ true → b ≡ true → ⊥
    not_both true e f = cc e
    not_both false e f = cc f
ended lowest limit c e within past = cc e

pub none_keeps : (limits : List Limit) (lowest : Option Cut) (c : Parts) → list_any (λ limit. ends_before lowest limit) limits ≡ true
    → Keeps limits c → is_past_lowest lowest c ≡ true → ⊥
none_keeps [] lowest c any keeps past = cc any
none_keeps (limit ∷ limits) lowest c any keeps past =
    let parts = and_parts (lies_within limit c) _ keeps in
    elim (or_cases (ends_before lowest limit) _ any) [
      | inl here ↦ ended lowest limit c here parts.0 past
      | inr more ↦ none_keeps limits lowest c more parts.1 past
    ]

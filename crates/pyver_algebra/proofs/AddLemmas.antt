-- What is kept of a version that a specifier admits, or doesn't.
use Rattle.std.proofs.Common.{◌≡◌, ℕ, Bool, true, false, List, [], ◌∷◌, ◌++◌, length, refl, sym, ap, ◌∙◌}
use Rattle.std.specs.Prelude.{◌&&◌, ◌==◌, not}
use Rattle.std.specs.Ordering.{is_lt}
use Rattle.pyver_core.specs.Set.Admission.{has_local, is_above, is_below, matches, matches_prefix}
use Rattle.pyver_core.specs.Version.Order.{version_cmp}
use Rattle.pyver_core.specs.Version.Parts.{Parts, base_release, is_prerelease, public_part}
use Rattle.pyver_core.specs.declared.version.part.LocalPart.{LocalPart}
use Rattle.pyver_algebra.specs.Firsts.{first_of, with_last_raised}
use Rattle.pyver_algebra.specs.Limits.{is_at, is_between, is_from, is_past}
use Rattle.pyver_algebra.specs.declared.limit.Cut.{Cut}
use Rattle.pyver_algebra.proofs.OrderLemmas.{before_first, front_cmp}
use Rattle.pyver_algebra.proofs.PrefixLemmas.{prefix_is}
use Rattle.pyver_algebra.proofs.SpecifierLemmas.{above_after, below_before, below_final, matches_is, matches_local, not_above_front, not_below_front, not_below_pre}

-- what the code asks of the local part
pub no_segments : (v : Parts) (segments : List LocalPart) (b : Bool) → segments ≡ v.local → b ≡ (length segments == 0) → b ≡ true → has_local v ≡ false
no_segments v segments b same is true_is = ap (λ (xs : List LocalPart). not (length xs == 0)) (sym same) ∙ ap not (sym is ∙ true_is)

pub some_segments : (v : Parts) (segments : List LocalPart) (b : Bool) → segments ≡ v.local → b ≡ (length segments == 0) → b ≡ false → has_local v ≡ true
some_segments v segments b same is false_is = ap (λ (xs : List LocalPart). not (length xs == 0)) (sym same) ∙ ap not (sym is ∙ false_is)

pub equal_at : (v c w : Parts) (b : Bool) → w ≡ v → has_local v ≡ false → matches v c ≡ b → is_at w c ≡ b
equal_at v c w b same none is = ap (λ (w : Parts). is_at w c) same ∙ sym (matches_is v c none) ∙ is

pub local_at : (v c w : Parts) → w ≡ public_part v → has_local v ≡ true → matches v c ≡ true → is_at w c ≡ true
local_at v c w same some is = ap (λ (w : Parts). is_at w c) same ∙ matches_local v c some is

pub final_from : (v c : Parts) (b : Bool) → v ≡ base_release v → is_below v c ≡ b → is_from (first_of v.epoch v.release) c ≡ not b
final_from v c b final is = ap not (sym (below_final v c final) ∙ is)

-- a cut right before a version, and right after it
pub before_is : (cut : Cut) (v c : Parts) → cut.version ≡ v → cut.after ≡ false → is_past cut c ≡ is_from v c
before_is cut v c version after = rw (after, version) refl

pub after_is : (cut : Cut) (v c : Parts) → cut.version ≡ v → cut.after ≡ true → is_past cut c ≡ is_lt (version_cmp v (public_part c))
after_is cut v c version after = rw (after, version) refl

pub below_past : (v c : Parts) (cut : Cut) → cut.version ≡ v → cut.after ≡ false → is_below v c ≡ true → is_past cut c ≡ false
below_past v c cut version after is = before_is cut v c version after ∙ ap not (below_before v c is)

pub not_below_past : (v c : Parts) (cut : Cut) → cut.version ≡ v → cut.after ≡ false → is_prerelease v ≡ true → has_local v ≡ false
    → is_below v c ≡ false → is_past cut c ≡ true
not_below_past v c cut version after pre none is = before_is cut v c version after ∙ ap not (not_below_pre v c pre none is)

pub not_below_from : (v c : Parts) → is_below v c ≡ false → is_from (first_of v.epoch v.release) c ≡ true
not_below_from v c is = ap not (not_below_front v c is)

pub not_above_from : (v c : Parts) → is_above v c ≡ false → is_from (first_of v.epoch (v.release ++ 1 ∷ [])) c ≡ false
not_above_from v c is = ap not (not_above_front v c is)

pub above_past : (v c : Parts) (cut : Cut) → cut.version ≡ v → cut.after ≡ true → has_local v ≡ false → is_above v c ≡ true → is_past cut c ≡ true
above_past v c cut version after none is = after_is cut v c version after ∙ above_after v c none is

pub prefix_between : (epoch : ℕ) (release : List ℕ) (c : Parts) (begin end : Cut) → begin.version ≡ first_of epoch release → begin.after ≡ false
    → end.version ≡ first_of epoch (with_last_raised release) → end.after ≡ false → (length release == 0) ≡ false
    → is_between begin end c ≡ matches_prefix epoch release c
prefix_between epoch release c begin end begin_version begin_after end_version end_after some =
    (λ i. before_is begin (first_of epoch release) c begin_version begin_after i && not (before_is end (first_of epoch (with_last_raised release)) c end_version end_after i))
    ∙ (λ i. not (before_first c epoch release i) && twice (before_first c epoch (with_last_raised release) i))
    ∙ twice_not _ (is_lt (front_cmp c (first_of epoch (with_last_raised release))))
    ∙ sym (prefix_is epoch release c some)
  where
    twice : Bool → Bool
    twice b = not (not b)

    twice_not : (a b : Bool) → (a && not (not b)) ≡ (a && b)
    twice_not a true = refl
    twice_not a false = refl

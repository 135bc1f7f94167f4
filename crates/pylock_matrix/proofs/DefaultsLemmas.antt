-- The least number with which a set admits a release, from a number on.
use Rattle.std.proofs.Common.{◌≡◌, ◌+◌, ◌-◌, ◌<◌, ◌≤◌, ◌∙◌, ℕ, true, false, List, Some, None, Option, ap, arith, refl, suc, zero}
use Rattle.std.specs.Prelude.{cond, find}
use Rattle.std.specs.List.{range_with_len}
use Rattle.pyver_core.specs.declared.set.specifier.Specifier.{Specifier}
use Rattle.pylock_matrix.specs.Defaults.{is_met, least_micro}

unfoldable pub least_from : List Specifier → ℕ → ℕ → Option ℕ
least_from set minor micro = find (is_met set minor) (range_with_len micro (100 - micro))

pub least_all : (set : List Specifier) (minor : ℕ) → least_from set minor 0 ≡ least_micro set minor
unfolding least_from least_micro
least_all set minor = refl

begins : (set : List Specifier) (minor micro : ℕ) → micro < 100
    → least_from set minor micro ≡ cond (is_met set minor micro) (Some micro) (least_from set minor (micro + 1))
unfolding least_from
begins set minor micro below =
    let one : 100 - micro ≡ suc (100 - (micro + 1)) = omega arith in
    ap (λ (n : ℕ). find (is_met set minor) (range_with_len micro n)) one

pub least_taken : (set : List Specifier) (minor micro : ℕ) → micro < 100 → is_met set minor micro ≡ true → least_from set minor micro ≡ Some micro
least_taken set minor micro below met = begins set minor micro below ∙ ap (λ b. cond b (Some micro) (least_from set minor (micro + 1))) met

pub least_passed : (set : List Specifier) (minor micro : ℕ) → micro < 100 → is_met set minor micro ≡ false
    → least_from set minor micro ≡ least_from set minor (micro + 1)
least_passed set minor micro below met = begins set minor micro below ∙ ap (λ b. cond b (Some micro) (least_from set minor (micro + 1))) met

pub least_none : (set : List Specifier) (minor micro : ℕ) → 100 ≤ micro → least_from set minor micro ≡ None
unfolding least_from
least_none set minor micro past =
    let none : 100 - micro ≡ zero = omega arith in
    ap (λ (n : ℕ). find (is_met set minor) (range_with_len micro n)) none

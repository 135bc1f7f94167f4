-- Specifiers of one operator whose operands are the same as versions admit the same versions.
use Rattle.std.proofs.Common.{◌≡◌, length, refl, sym, ◌∙◌}
use Rattle.std.specs.Prelude.{◌&&◌, ◌||◌, ◌==◌, is_some, not, if◌then◌else◌}
use Rattle.std.specs.Ordering.{is_eq, is_lt, ordering_then}
use Rattle.std.specs.declared.cmp.Ordering.{Ordering}
use Rattle.std.specs.declared.cmp.Ordering.TheVariants.{Equal}
use Rattle.std.proofs.lemmas.Cmp.{alike_right}
use Rattle.pyver_core.specs.Inner.HashLaws.{version_cmp-Equal}
use Rattle.pyver_core.specs.Set.Admission.{has_local, is_above, is_below, matches}
use Rattle.pyver_core.specs.Version.Order.{IsSame, version_cmp}
use Rattle.pyver_core.specs.Version.OrderLaws.{version_total}
use Rattle.pyver_core.specs.Version.Parts.{Parts, base_release, is_postrelease, is_prerelease, public_part}
use Rattle.pyver_algebra.proofs.OrderLemmas.{bases_cmp, front_cmp, version_fronts}

then_first : (r s : Ordering) → ordering_then r s ≡ Equal → r ≡ Equal
then_first Equal s e = refl
then_first r s e = cc e

same_bases : (v w : Parts) → IsSame v w → IsSame (base_release v) (base_release w)
same_bases v w e = bases_cmp v w ∙ then_first (front_cmp v w) _ (sym (version_fronts v w) ∙ e)

pub same_matches : (v w c : Parts) → IsSame v w → matches v c ≡ matches w c
same_matches v w c e =
    let same = version_cmp-Equal v w e in
    let whole : version_cmp c v ≡ version_cmp c w = alike_right version_total v w c e in
    let public : version_cmp (public_part c) v ≡ version_cmp (public_part c) w = alike_right version_total v w (public_part c) e in
    λ i. if not (length (same.local i) == 0) then is_eq (whole i) else is_eq (public i)

pub same_below : (v w c : Parts) → IsSame v w → is_below v c ≡ is_below w c
same_below v w c e =
    let same = version_cmp-Equal v w e in
    let whole : version_cmp c v ≡ version_cmp c w = alike_right version_total v w c e in
    let base : version_cmp (base_release c) (base_release v) ≡ version_cmp (base_release c) (base_release w) = alike_right version_total (base_release v) (base_release w) (base_release c) (same_bases v w e) in
    λ i. is_lt (whole i) && not (not (is_some (same.pre i) || is_some (same.dev i)) && (is_prerelease c && is_eq (base i)))

pub same_above : (v w c : Parts) → IsSame v w → is_above v c ≡ is_above w c
same_above v w c e =
    let same = version_cmp-Equal v w e in
    let whole : version_cmp v c ≡ version_cmp w c = version_total.congr v w c e in
    let public : version_cmp (public_part c) v ≡ version_cmp (public_part c) w = alike_right version_total v w (public_part c) e in
    let base : version_cmp (base_release c) (base_release v) ≡ version_cmp (base_release c) (base_release w) = alike_right version_total (base_release v) (base_release w) (base_release c) (same_bases v w e) in
    λ i. is_lt (whole i) && (not (not (is_some (same.post i)) && (is_postrelease c && is_eq (base i))) && not (has_local c && is_eq (public i)))

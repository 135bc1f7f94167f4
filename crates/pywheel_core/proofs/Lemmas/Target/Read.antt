-- What is read is a target that there is.
use Rattle.std.proofs.Common.{◌≡◌, ◌&&◌, true, List, ℕ, Result, Ok, ok_or, refl, sym, subst, ap, ◌∙◌, ◌↔◌}
use Rattle.std.specs.List.{IsDistinct}
use Rattle.pytext.proofs.ResultsLemmas.{bind_ok, ok_or_some}
use Rattle.pywheel_core.proofs.Lemmas.Target.Compatible.{are_compatible}
use Rattle.pywheel_core.proofs.Lemmas.Target.Distinct.{tags_once}
use Rattle.pywheel_core.proofs.Lemmas.Target.Newer.{older_is_part}
use Rattle.pywheel_core.proofs.Lemmas.Target.Once.{once_distinct}
use Rattle.pywheel_core.proofs.TargetLemmas.{target_known}
use Rattle.pywheel_core.specs.Tag.{TagValue, is_among, tag_eq}
use Rattle.pywheel_core.specs.Target.Compatible.{IsCompatible}
use Rattle.pywheel_core.specs.Target.Newer.{IsAtLeast, IsPart}
use Rattle.pywheel_core.specs.Target.Reading.{platform_of, python_of, target_of}
use Rattle.pywheel_core.specs.Target.Tags.{target_tags}
use Rattle.pywheel_core.specs.Target.Value.{TargetValue, is_target}
use Rattle.pywheel_core.specs.declared.error.TargetError.{TargetError}
use Rattle.pywheel_core.specs.declared.error.TargetError.TheVariants as refused

pub read_known : (python platform : List ℕ) (t : TargetValue) → target_of python platform ≡ Ok t → is_target t ≡ true
unfolding target_of
read_known python platform t h =
    let x = bind_ok (ok_or (python_of python) refused.Python) _ t h in
    let y = bind_ok (ok_or (platform_of platform) refused.Platform) _ t x.2 in
    let made : Ok (record { python = x.0; platform = y.0 }) ≡ Ok t = y.2 in
    let same : record { python = x.0; platform = y.0 } ≡ t = cc in
    sym (ap is_target same) ∙ target_known python platform x.0 y.0 (ok_or_some (python_of python) refused.Python x.0 x.1) (ok_or_some (platform_of platform) refused.Platform y.0 y.1)

pub read_distinct : (python platform : List ℕ) (t : TargetValue) → target_of python platform ≡ Ok t → IsDistinct tag_eq (target_tags t)
read_distinct python platform t h = once_distinct (target_tags t) (tags_once t (read_known python platform t h))

pub read_compatible : (python platform : List ℕ) (t : TargetValue) (x : TagValue) → target_of python platform ≡ Ok t → (is_among x (target_tags t) ≡ true) ↔ IsCompatible t x
read_compatible python platform t x h = are_compatible t x (read_known python platform t h)

pub read_part : (python newer older : List ℕ) (t u : TargetValue) → target_of python newer ≡ Ok t → target_of python older ≡ Ok u → IsAtLeast t.platform u.platform → IsPart (target_tags u) (target_tags t)
unfolding target_of
read_part python newer older t u h g least =
    let x = bind_ok (ok_or (python_of python) refused.Python) _ t h in
    let y = bind_ok (ok_or (python_of python) refused.Python) _ u g in
    let v = bind_ok (ok_or (platform_of newer) refused.Platform) _ t x.2 in
    let w = bind_ok (ok_or (platform_of older) refused.Platform) _ u y.2 in
    let made : Ok (record { python = x.0; platform = v.0 }) ≡ Ok t = v.2 in
    let made_too : Ok (record { python = y.0; platform = w.0 }) ≡ Ok u = w.2 in
    let is : record { python = x.0; platform = v.0 } ≡ t = cc in
    let is_too : record { python = y.0; platform = w.0 } ≡ u = cc in
    let both : Ok x.0 ≡ Ok y.0 = sym x.1 ∙ y.1 in
    let python_same : x.0 ≡ y.0 = cc in
    older_is_part t u (read_known python newer t h) (read_known python older u g)
    (sym (ap (λ (z : TargetValue). z.python) is) ∙ python_same ∙ ap (λ (z : TargetValue). z.python) is_too) least

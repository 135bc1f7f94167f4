-- The tags of a wheel are those of its compressed tag set.
use Rattle.std.proofs.Common.{◌≡◌, ℕ, List, Option, ok_or, Result, Ok, Err, refl, subst}
use Rattle.std.specs.Result.{IfOk}
use Rattle.std.specs.Str.{str_to_ascii_lowercase}
use Rattle.pytext.specs.Results.{◌>>=◌}
use Rattle.pyver_core.specs.Version.Parts.{Parts}
use Rattle.pywheel_core.specs.Tag.{TagValue}
use Rattle.pywheel_core.specs.Wheel.Cut.{WheelParts, parts_of, stem_of}
use Rattle.pywheel_core.specs.Wheel.Reading.{build_in, name_in, set_tags_in, tag_set_in, version_in, wheel_in, wheel_of}
use Rattle.pywheel_core.specs.Wheel.Value.{WheelValue}
use Rattle.pywheel_core.specs.declared.error.WheelError.{WheelError}
use Rattle.pywheel_core.specs.declared.error.WheelError.TheVariants as wheel

abbrev HasTags : Result WheelValue WheelError → Type 0
HasTags r = IfOk r (λ w. set_tags_in w.tag_set ≡ Ok w.tags)

then_has : {A : Type 0} (r : Result A WheelError) (f : A → Result WheelValue WheelError) → ((x : A) → HasTags (f x)) → HasTags (r >>= f)
then_has (Ok x) f h = h x
then_has (Err e) f h = tt

abbrev with_text : List ℕ → List TagValue → Result (List ℕ × List TagValue) WheelError
with_text lower tags = Ok (lower, tags)

made_has : (lower : List ℕ) (r : Result (List TagValue) WheelError) (name : List ℕ) (version : Parts) (build : Option (List ℕ)) → set_tags_in lower ≡ r
    → HasTags ((r >>= λ tags. with_text lower tags) >>= λ set. Ok (record { name = name; version = version; build = build; tag_set = set.0; tags = set.1 }))
made_has lower (Ok tags) name version build e = e
made_has lower (Err refused) name version build e = tt

parts_have : (parts : WheelParts) → HasTags (wheel_in parts)
unfolding wheel_in tag_set_in
parts_have parts =
    let lower = str_to_ascii_lowercase parts.tag_set in
    then_has (name_in parts.name) _ (λ name. then_has (version_in parts.version) _ (λ version. then_has (build_in parts.build) _ (λ build. made_has lower (set_tags_in lower) name version build refl)))

wheel_has : (text : List ℕ) → HasTags (wheel_of text)
unfolding wheel_of
wheel_has text = then_has (ok_or (stem_of text) wheel.Extension) _ (λ stem. then_has (ok_or (parts_of stem) wheel.Parts) (λ parts. wheel_in parts) parts_have)

pub set_has_tags : (text : List ℕ) (w : WheelValue) → wheel_of text ≡ Ok w → set_tags_in w.tag_set ≡ Ok w.tags
set_has_tags text w h = subst HasTags h (wheel_has text)

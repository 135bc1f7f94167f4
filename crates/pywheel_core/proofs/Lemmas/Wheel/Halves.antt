-- What two halves say, the whole name says.
use Rattle.std.proofs.Common.{◌≡◌, ℕ, true, codes, List, [], ◌∷◌, ◌++◌, Option, Some, ok_or, Ok, string_bytes, sym, ap, ◌∙◌}
use Rattle.std.proofs.lemmas.List.{append_assoc}
use Rattle.pytext.proofs.ResultsLemmas.{bind_ok, ok_or_some}
use Rattle.pytext.specs.Options as options
use Rattle.pytext.specs.Results.{◌>>=◌}
use Rattle.pyver_core.specs.Parsed.{parsed_version}
use Rattle.pyver_core.specs.Version.Parts.{Parts}
use Rattle.pywheel_core.specs.Wheel.Cut.{WheelParts, end_of, parts_of, stem_of}
use Rattle.pywheel_core.specs.Wheel.Halves.{EndValue, IsHead, end_in, wheel_of_halves}
use Rattle.pywheel_core.specs.Wheel.Name.{is_wheel_name}
use Rattle.pywheel_core.specs.Wheel.Reading.{build_in, tag_set_in, version_in, version_or, wheel_in, wheel_of}
use Rattle.pywheel_core.specs.declared.error.WheelError.TheVariants as wheel
use Rattle.pywheel_core.specs.declared.halves.NameHead.{NameHead}
use Rattle.pywheel_core.proofs.Lemmas.Texts.Cuts.{Lacks, cut_joined}
use Rattle.pywheel_core.proofs.Lemmas.Wheel.Grammar.{name_taken, stem_joined, stem_says}

-- the head as it is written
abbrev pub head_text : List ℕ → List ℕ → List ℕ
head_text name spelling = name ++ (45 ∷ (spelling ++ (45 ∷ [])))

head_joins : (name spelling stem : List ℕ)
    → head_text name spelling ++ (stem ++ codes ".whl") ≡ (name ++ (45 ∷ (spelling ++ (45 ∷ stem)))) ++ codes ".whl"
head_joins name spelling stem =
    append_assoc name (45 ∷ (spelling ++ (45 ∷ []))) (stem ++ codes ".whl")
    ∙ ap (λ l. name ++ (45 ∷ l)) (append_assoc spelling (45 ∷ []) (stem ++ codes ".whl") ∙ sym (append_assoc spelling (45 ∷ stem) (codes ".whl")))
    ∙ sym (append_assoc name (45 ∷ (spelling ++ (45 ∷ stem))) (codes ".whl"))

parts_of_halves : (name spelling stem : List ℕ) (end : Option (List ℕ) × List ℕ) → Lacks 45 name → Lacks 45 spelling → end_of stem ≡ Some end
    → parts_of (name ++ (45 ∷ (spelling ++ (45 ∷ stem)))) ≡ Some (record { name = name; version = spelling; build = end.0; tag_set = end.1 })
unfolding parts_of
parts_of_halves name spelling stem end ln ls e =
    let first = cut_joined 45 name (spelling ++ (45 ∷ stem)) ln in
    let second = cut_joined 45 spelling stem ls in
    rw (first, second) (ap (λ o. options.◌>>=◌ o (λ end. Some (record { name = name; version = spelling; build = end.0; tag_set = end.1 }))) e)

version_read : (text : List ℕ) (v : Parts) → parsed_version text ≡ Ok v → version_in text ≡ Ok v
unfolding version_in
version_read text v e = ap version_or e

pub head_before : (name spelling text : List ℕ) (head : NameHead) → Lacks 45 name → Lacks 45 spelling → is_wheel_name name ≡ true → string_bytes head.name ≡ name
    → parsed_version spelling ≡ Ok head.version → text ≡ head_text name spelling → IsHead text head
unfolding wheel_of wheel_in end_in
head_before name spelling text head ln ls is_name same spells whole rest end h =
    let x = bind_ok (ok_or (stem_of rest) wheel.Extension) (λ stem. ok_or (end_of stem) wheel.Parts >>= λ parts. build_in parts.0 >>= λ build. tag_set_in parts.1 >>= λ set.
    Ok (record { build = build; tag_set = set.0; tags = set.1 })) end h in
    let y = bind_ok (ok_or (end_of x.0) wheel.Parts) (λ parts. build_in parts.0 >>= λ build. tag_set_in parts.1 >>= λ set.
    Ok (record { build = build; tag_set = set.0; tags = set.1 })) end x.2 in
    let b = bind_ok (build_in y.0.0) (λ build. tag_set_in y.0.1 >>= λ set. Ok (record { build = build; tag_set = set.0; tags = set.1 })) end y.2 in
    let s = bind_ok (tag_set_in y.0.1) (λ set. Ok (record { build = b.0; tag_set = set.0; tags = set.1 })) end b.2 in
    let stem = name ++ (45 ∷ (spelling ++ (45 ∷ x.0))) in
    let parts : WheelParts = record { name = name; version = spelling; build = y.0.0; tag_set = y.0.1 } in
    let e1 : stem_of (text ++ rest) ≡ Some stem =
    ap stem_of ((λ i. whole i ++ stem_says rest x.0 (ok_or_some (stem_of rest) wheel.Extension x.0 x.1) i) ∙ head_joins name spelling x.0) ∙ stem_joined stem in
    let e2 : parts_of stem ≡ Some parts = parts_of_halves name spelling x.0 y.0 ln ls (ok_or_some (end_of x.0) wheel.Parts y.0 y.1) in
    let e3 = name_taken name is_name in
    let e4 = version_read spelling head.version spells in
    let made : EndValue = record { build = b.0; tag_set = s.0.0; tags = s.0.1 } in
    let last = s.2 in
    let is : made ≡ end = cc in
    ap (λ o. ok_or o wheel.Extension >>= λ s. ok_or (parts_of s) wheel.Parts >>= λ u. wheel_in u) e1
    ∙ (ap (λ o. ok_or o wheel.Parts >>= λ u. wheel_in u) e2
    ∙ (ap (λ r. r >>= λ n. version_in spelling >>= λ v. build_in y.0.0 >>= λ b. tag_set_in y.0.1 >>= λ s. Ok (record { name = n; version = v; build = b; tag_set = s.0; tags = s.1 })) e3
    ∙ (ap (λ r. r >>= λ v. build_in y.0.0 >>= λ b. tag_set_in y.0.1 >>= λ s. Ok (record { name = name; version = v; build = b; tag_set = s.0; tags = s.1 })) e4
    ∙ (ap (λ r. r >>= λ b. tag_set_in y.0.1 >>= λ s. Ok (record { name = name; version = head.version; build = b; tag_set = s.0; tags = s.1 })) b.1
    ∙ (ap (λ r. r >>= λ s. Ok (record { name = name; version = head.version; build = b.0; tag_set = s.0; tags = s.1 })) s.1
    ∙ (ap (λ n. Ok (record { name = n; version = head.version; build = b.0; tag_set = s.0.0; tags = s.0.1 })) (sym same)
    ∙ ap (λ e. Ok (wheel_of_halves head e)) is))))))

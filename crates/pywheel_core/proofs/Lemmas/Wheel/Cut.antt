-- What the five or six parts of a wheel's name say of it.
use Rattle.std.proofs.Common.{◌≡◌, ℕ, List, ◌∷◌, ◌++◌, Option, Some, None, is_some, if◌then◌else◌, refl, subst, ap, ◌∙◌, inl, inr}
use Rattle.std.proofs.lemmas.Option.{same_Some}
use Rattle.std.specs.Option.{IfSome}
use Rattle.pytext.proofs.OptionsLemmas.{bind_some, either_some, option_cases}
use Rattle.pytext.specs.Options.{◌>>=◌, either}
use Rattle.pywheel_core.specs.Tag.{TagParts}
use Rattle.pywheel_core.specs.Texts.{cut_at, three_parts}
use Rattle.pywheel_core.specs.Wheel.Cut.{WheelParts, end_with_build, parts_of, end_without_build}
use Rattle.pywheel_core.specs.Wheel.Value.{with_build}
use Rattle.pywheel_core.proofs.Lemmas.Texts.Cuts.{Lacks, cut_joined, cut_says}

-- what stands behind the version
abbrev pub EndSays : List ℕ → Option (List ℕ) × List ℕ → Type 0
EndSays text end = (text ≡ with_build end.0 end.1) × IfSome end.0 (Lacks 45) × ((t : TagParts) × (three_parts 45 end.1 ≡ Some t))

unbuilt_says : (text : List ℕ) (end : Option (List ℕ) × List ℕ) → end_without_build text ≡ Some end → EndSays text end
unfolding end_without_build
unbuilt_says text end h = elim (option_cases (three_parts 45 text)) [
  | inl none ↦ absurd (let z : None ≡ Some end = rw none at h in cc)
  | inr t ↦
      let q : Some (None, text) ≡ Some end = rw t.1 at h in
      let p : (None, text) ≡ end = same_Some (None, text) end q in
      subst (EndSays text) p (refl, tt, t)
]

built_says : (text : List ℕ) (end : Option (List ℕ) × List ℕ) → end_with_build text ≡ Some end → EndSays text end
unfolding end_with_build
built_says text end h =
    let x = bind_some (cut_at 45 text) (λ build. if is_some (three_parts 45 build.1) then Some (Some build.0, build.1) else None) end h in
    let h2 = x.2 in
    let cut = cut_says 45 text x.0.0 x.0.1 x.1 in
    elim (option_cases (three_parts 45 x.0.1)) [
      | inl none ↦ absurd (let z : None ≡ Some end = rw none at h2 in cc)
      | inr t ↦
          let q : Some (Some x.0.0, x.0.1) ≡ Some end = rw t.1 at h2 in
          let p : (Some x.0.0, x.0.1) ≡ end = same_Some (Some x.0.0, x.0.1) end q in
          subst (EndSays text) p (cut.0, cut.1, t)
    ]

end_says : (text : List ℕ) (end : Option (List ℕ) × List ℕ) → either (end_without_build text) (end_with_build text) ≡ Some end → EndSays text end
end_says text end h = elim (either_some (end_without_build text) (end_with_build text) end h) [ inl e ↦ unbuilt_says text end e | inr e ↦ built_says text end e ]

abbrev pub PartsSay : List ℕ → WheelParts → Type 0
PartsSay stem parts = (stem ≡ parts.name ++ (45 ∷ (parts.version ++ (45 ∷ with_build parts.build parts.tag_set)))) × Lacks 45 parts.name × Lacks 45 parts.version
    × IfSome parts.build (Lacks 45) × ((t : TagParts) × (three_parts 45 parts.tag_set ≡ Some t))

pub parts_say : (stem : List ℕ) (parts : WheelParts) → parts_of stem ≡ Some parts → PartsSay stem parts
unfolding parts_of
parts_say stem parts h =
    let x = bind_some (cut_at 45 stem) (λ name. cut_at 45 name.1 >>= λ version. either (end_without_build version.1) (end_with_build version.1) >>= λ end.
    Some (record { name = name.0; version = version.0; build = end.0; tag_set = end.1 })) parts h in
    let y = bind_some (cut_at 45 x.0.1) (λ version. either (end_without_build version.1) (end_with_build version.1) >>= λ end.
    Some (record { name = x.0.0; version = version.0; build = end.0; tag_set = end.1 })) parts x.2 in
    let z = bind_some (either (end_without_build y.0.1) (end_with_build y.0.1)) (λ end. Some (record { name = x.0.0; version = y.0.0; build = end.0; tag_set = end.1 })) parts y.2 in
    let first = cut_says 45 stem x.0.0 x.0.1 x.1 in
    let second = cut_says 45 x.0.1 y.0.0 y.0.1 y.1 in
    let end = end_says y.0.1 z.0 z.1 in
    let made : WheelParts = record { name = x.0.0; version = y.0.0; build = z.0.0; tag_set = z.0.1 } in
    let same : made ≡ parts = same_Some made parts z.2 in
    subst (PartsSay stem) same (first.0 ∙ ap (λ l. x.0.0 ++ (45 ∷ l)) (second.0 ∙ ap (λ l. y.0.0 ++ (45 ∷ l)) end.0), first.1, second.1, end.1, end.2)

-- ---- the other way round

pub parts_made : (name version : List ℕ) (build : Option (List ℕ)) (set : List ℕ) (t : TagParts) → Lacks 45 name → Lacks 45 version → IfSome build (Lacks 45)
    → three_parts 45 set ≡ Some t → IfSome build (λ b. three_parts 45 (b ++ (45 ∷ set)) ≡ None)
    → parts_of (name ++ (45 ∷ (version ++ (45 ∷ with_build build set)))) ≡ Some (record { name = name; version = version; build = build; tag_set = set })
unfolding parts_of end_without_build end_with_build
parts_made name version None set t x y z three four =
    let first = cut_joined 45 name (version ++ (45 ∷ set)) x in
    let second = cut_joined 45 version set y in
    rw (first, second, three) refl
parts_made name version (Some b) set t x y z three four =
    let first = cut_joined 45 name (version ++ (45 ∷ (b ++ (45 ∷ set)))) x in
    let second = cut_joined 45 version (b ++ (45 ∷ set)) y in
    let third = cut_joined 45 b set z in
    rw (first, second, four, third, three) refl

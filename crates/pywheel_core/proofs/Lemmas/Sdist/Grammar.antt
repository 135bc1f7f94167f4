-- What is read as the name of a source distribution is what the relation says, and the other way
-- round.
use Rattle.std.proofs.Common.{◌≡◌, ◌≢◌, ℕ, true, codes, List, [], ◌∷◌, ◌++◌, Some, None, Result, Ok, Err, refl, sym, subst, ap, ◌∙◌, inl, inr, arith}
use Rattle.std.proofs.Math.Bool.{true≢false}
use Rattle.std.proofs.lemmas.Bool.{cases_Bool}
use Rattle.std.proofs.lemmas.List.{append_assoc, same_from_push}
use Rattle.std.specs.Option.{ok_or}
use Rattle.std.specs.Result.{IfErr, IfOk}
use Rattle.pytext.proofs.OptionsLemmas.{either_some, option_cases}
use Rattle.pytext.proofs.ResultsLemmas.{bind_ok, if_ok, ok_or_some}
use Rattle.pytext.specs.Agreement.{Gives}
use Rattle.pytext.specs.Results.{◌>>=◌}
use Rattle.pyver_core.proofs.Lemmas.Version.Reading.Complete.Whole.{version_complete}
use Rattle.pyver_core.proofs.Lemmas.Version.Reading.Sound.Parts.{version_sound}
use Rattle.pyver_core.specs.Name.{is_name, normal_name}
use Rattle.pyver_core.specs.Parsed.{parsed_version}
use Rattle.pyver_core.specs.Version.Grammar.{IsLarge, Spells, has_large, numbers}
use Rattle.pyver_core.specs.Version.Parts.{Parts}
use Rattle.pyver_core.specs.Version.Reading.{version_of}
use Rattle.pywheel_core.specs.Sdist.Grammar.{IsSdistExtension, Sdist}
use Rattle.pywheel_core.specs.Sdist.Reading.{sdist_name_in, sdist_of, sdist_stem, sdist_version_in}
use Rattle.pywheel_core.specs.Sdist.Value.{SdistValue}
use Rattle.pywheel_core.specs.Texts.{before_ending, cut_at_last}
use Rattle.pywheel_core.specs.declared.error.SdistError.{SdistError}
use Rattle.pywheel_core.specs.declared.error.SdistError.TheVariants as sdist
use Rattle.pywheel_core.proofs.Lemmas.Texts.Cuts.{ending_joined, ending_says}
use Rattle.pywheel_core.proofs.Lemmas.Texts.LastCut.{last_cut_joined, last_cut_says}

-- ---- the extension

abbrev StemSays : List ℕ → List ℕ → Type 0
StemSays text stem = (extension : List ℕ) × (text ≡ stem ++ extension) × IsSdistExtension extension

stem_says : (text stem : List ℕ) → sdist_stem text ≡ Some stem → StemSays text stem
stem_says text stem h = elim (either_some (before_ending (codes ".tar.gz") text) (before_ending (codes ".zip") text) stem h) [
  | inl e ↦ (codes ".tar.gz", ending_says (codes ".tar.gz") text stem e, inl refl)
  | inr e ↦ (codes ".zip", ending_says (codes ".zip") text stem e, inr refl)
]

-- a text in `.zip` doesn't end in `.tar.gz`
no_tar : (stem : List ℕ) → before_ending (codes ".tar.gz") (stem ++ codes ".zip") ≡ None
no_tar stem = elim (option_cases (before_ending (codes ".tar.gz") (stem ++ codes ".zip"))) [
  | inl none ↦ none
  | inr some ↦
      let whole = ending_says (codes ".tar.gz") (stem ++ codes ".zip") some.0 some.1 in
      let last : (stem ++ codes ".zi") ++ (112 ∷ []) ≡ (some.0 ++ codes ".tar.g") ++ (122 ∷ []) =
      append_assoc stem (codes ".zi") (112 ∷ []) ∙ whole ∙ sym (append_assoc some.0 (codes ".tar.g") (122 ∷ [])) in
      let no : 112 ≡ 122 = (same_from_push (stem ++ codes ".zi") (some.0 ++ codes ".tar.g") 112 122 last).1 in
      absurd (omega (arith, no))
]

stem_made : (stem extension : List ℕ) → IsSdistExtension extension → sdist_stem (stem ++ extension) ≡ Some stem
stem_made stem extension (inl is) =
    let tar = ending_joined (codes ".tar.gz") stem in
    ap (λ e. sdist_stem (stem ++ e)) is ∙ (rw tar refl)
stem_made stem extension (inr is) =
    let none = no_tar stem in
    let zip = ending_joined (codes ".zip") stem in
    ap (λ e. sdist_stem (stem ++ e)) is ∙ (rw (none, zip) refl)

-- ---- the version

abbrev refused : Result Parts SdistError
refused = Err sdist.Version

abbrev taken : Parts → Result Parts SdistError
taken v = Ok v

version_says : (text : List ℕ) (v : Parts) → sdist_version_in text ≡ Ok v → Spells text v × (IsLarge v → ⊥)
unfolding sdist_version_in parsed_version
version_says text v h = elim (option_cases (version_of text)) [
  | inl none ↦ absurd (let z : refused ≡ taken v = rw none at h in cc)
  | inr u ↦ let h2 = rw u.1 at h in elim (cases_Bool (has_large (numbers u.0))) [
    | inl large ↦ absurd (let z : refused ≡ taken v = rw large at h2 in cc)
    | inr small ↦
        let q : taken u.0 ≡ taken v = rw small at h2 in
        let same : u.0 ≡ v = cc in
        subst (λ p. Spells text p × (IsLarge p → ⊥)) same (version_sound text u.0 u.1, λ l. true≢false (sym l ∙ small))
  ]
]

version_taken : (text : List ℕ) (v : Parts) → Spells text v → (IsLarge v → ⊥) → sdist_version_in text ≡ Ok v
unfolding sdist_version_in parsed_version
version_taken text v spells fits = elim (cases_Bool (has_large (numbers v))) [
  | inl e ↦ absurd (fits e)
  | inr e ↦ let read = version_complete text v spells in rw (read, e) refl
]

-- ---- what is read is what the relation says

pub sdist_says : (text : List ℕ) (s : SdistValue) → sdist_of text ≡ Ok s → Sdist text s.name s.version
unfolding sdist_of sdist_name_in
sdist_says text s h =
    let x = bind_ok (ok_or (sdist_stem text) sdist.Extension) (λ stem. ok_or (cut_at_last 45 stem) sdist.Parts >>= λ parts. sdist_name_in parts.0 >>= λ name. sdist_version_in parts.1 >>= λ version.
    Ok (record { name = name; version = version })) s h in
    let stem = stem_says text x.0 (ok_or_some (sdist_stem text) sdist.Extension x.0 x.1) in
    let y = bind_ok (ok_or (cut_at_last 45 x.0) sdist.Parts) (λ parts. sdist_name_in parts.0 >>= λ name. sdist_version_in parts.1 >>= λ version.
    Ok (record { name = name; version = version })) s x.2 in
    let written = y.0.0 in let spelling = y.0.1 in
    let cut = last_cut_says 45 x.0 written spelling (ok_or_some (cut_at_last 45 x.0) sdist.Parts y.0 y.1) in
    let n = bind_ok (sdist_name_in written) (λ name. sdist_version_in spelling >>= λ version. Ok (record { name = name; version = version })) s y.2 in
    let v = bind_ok (sdist_version_in spelling) (λ version. Ok (record { name = n.0; version = version })) s n.2 in
    let made : SdistValue = record { name = n.0; version = v.0 } in
    let last = v.2 in
    let is : made ≡ s = cc in
    let name = if_ok (is_name written) (normal_name written) n.0 sdist.Name n.1 in
    let version = version_says spelling v.0 v.1 in
    let it : Sdist text n.0 v.0 = record {
      written = written;
      spelling = spelling;
      extension = stem.0;
      whole = stem.1 ∙ ap (λ l. l ++ stem.0) cut.0;
      is_name = name.0;
      normal = name.1;
      is_undashed = cut.1;
      spells = version.0;
      fits = version.1;
      is_extension = stem.2;
    } in
    subst (λ u. Sdist text u.name u.version) is it

-- ---- and the other way round

name_made : (written name : List ℕ) → is_name written ≡ true → normal_name written ≡ name → sdist_name_in written ≡ Ok name
unfolding sdist_name_in
name_made written name is normal = rw is (ap Ok normal)

pub sdist_made : (text name : List ℕ) (version : Parts) → Sdist text name version → sdist_of text ≡ Ok (record { name = name; version = version })
unfolding sdist_of sdist_name_in
sdist_made text name version x =
    let stem = x.written ++ (45 ∷ x.spelling) in
    let e1 : sdist_stem text ≡ Some stem = ap sdist_stem x.whole ∙ stem_made stem x.extension x.is_extension in
    let e2 : cut_at_last 45 stem ≡ Some (x.written, x.spelling) = last_cut_joined 45 x.written x.spelling x.is_undashed in
    let e4 = version_taken x.spelling version x.spells x.fits in
    ap (λ o. ok_or o sdist.Extension >>= λ stem. ok_or (cut_at_last 45 stem) sdist.Parts >>= λ parts. sdist_name_in parts.0 >>= λ name. sdist_version_in parts.1 >>= λ version.
    Ok (record { name = name; version = version })) e1
    ∙ (ap (λ o. ok_or o sdist.Parts >>= λ parts. sdist_name_in parts.0 >>= λ name. sdist_version_in parts.1 >>= λ version. Ok (record { name = name; version = version })) e2
    ∙ (ap (λ r. r >>= λ name. sdist_version_in x.spelling >>= λ version. Ok (record { name = name; version = version })) (name_made x.written name x.is_name x.normal)
    ∙ ap (λ r. r >>= λ version. Ok (record { name = name; version = version })) e4))

-- ---- what a call gives

pub given_sdist : (text : List ℕ) (r : Result SdistValue SdistError) → Gives sdist.Memory (λ s. s) r (sdist_of text) → IfOk r (λ s. Sdist text s.name s.version)
given_sdist text (Ok s) h = sdist_says text s h
given_sdist text (Err e) h = tt

pub given_no_sdist : (text : List ℕ) (r : Result SdistValue SdistError) → Gives sdist.Memory (λ s. s) r (sdist_of text)
    → IfErr r (λ e. e ≢ sdist.Memory → (name : List ℕ) (version : Parts) → Sdist text name version → ⊥)
given_no_sdist text (Ok s) h = tt
given_no_sdist text (Err e) h = λ other name version x.
    let made = sdist_made text name version x in
    let refused = h other in
    absurd cc

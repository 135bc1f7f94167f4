-- What is read as the name of a wheel is what the relation says, and the other way round.
use Rattle.std.proofs.Common.{◌≡◌, ◌≢◌, ℕ, true, false, ◌==◌, ◌&&◌, ◌||◌, not, nat_le, nat_lt, if◌then◌else◌, codes, List, [], ◌∷◌, ◌++◌, length, Option, Some, None, Result, Ok, Err, refl, sym, subst, ap, ◌∙◌, inl, inr, arith}
use Rattle.std.proofs.Math.Bool.{true≢false}
use Rattle.std.proofs.lemmas.Bool.Decides.{nat_tests}
use Rattle.std.proofs.lemmas.Option.{same_Some}
use Rattle.std.specs.Char.{to_ascii_lowercase}
use Rattle.std.specs.List.{join_with_byte, list_all, list_any}
use Rattle.std.specs.Option.{IfSome, ok_or, option_to_list}
use Rattle.std.specs.Result.{IfErr, IfOk}
use Rattle.std.specs.Str.{str_to_ascii_lowercase}
use Rattle.pyver_core.proofs.Lemmas.Version.Reading.Complete.Whole.{version_complete}
use Rattle.pytext.proofs.OptionsLemmas.{option_cases}
use Rattle.std.proofs.lemmas.Bool.{and_parts, cases_Bool}
use Rattle.pyver_core.proofs.Lemmas.Version.Reading.Sound.Parts.{version_sound}
use Rattle.pyver_core.specs.Version.Grammar.{IsLarge, Spells, has_large, numbers}
use Rattle.pyver_core.specs.Version.Parts.{Parts}
use Rattle.pyver_core.specs.Version.Reading.{version_of}
use Rattle.pytext.specs.Agreement.{Gives}
use Rattle.pytext.proofs.ResultsLemmas.{bind_ok, if_ok, ok_or_some}
use Rattle.pytext.specs.Results.{◌>>=◌}
use Rattle.pyver_core.specs.Parsed.{parsed_version}
use Rattle.pytext.specs.Bytes.{is_word_byte}
use Rattle.pywheel_core.specs.Tag.{TAGS_LIMIT, TagParts, TagValue, are_tag_parts, has_tag_parts, is_tag_part, is_tag_set, pieces, tag_count, tags_in}
use Rattle.std.proofs.lemmas.List.Splits.{join_with_byte-slice_split}
use Rattle.pywheel_core.specs.Texts.{IsUndashed, has_pair, three_parts}
use Rattle.pywheel_core.specs.Wheel.Build.{is_build}
use Rattle.pywheel_core.specs.Wheel.Cut.{WheelParts, parts_of, stem_of}
use Rattle.pywheel_core.specs.Wheel.Grammar.{IsTagSet, Wheel, join_dashed}
use Rattle.pywheel_core.specs.Wheel.Name.{is_wheel_name, is_wheel_name_byte}
use Rattle.pywheel_core.specs.Wheel.Reading.{build_in, name_in, set_tags_in, tag_set_in, version_in, wheel_in, wheel_of}
use Rattle.pywheel_core.specs.Wheel.Value.{WheelValue, with_build}
use Rattle.pywheel_core.specs.declared.error.WheelError.{WheelError}
use Rattle.pywheel_core.specs.declared.error.WheelError.TheVariants as wheel
use Rattle.pywheel_core.proofs.Lemmas.Texts.Cuts.{Lacks, bytes_lack, cut_joined, cut_lacking, ending_joined, ending_says, lacks_both}
use Rattle.pywheel_core.proofs.Lemmas.Tag.Lowering.{lower_cut_set, lower_eq}
use Rattle.pywheel_core.proofs.Lemmas.Wheel.Cut.{parts_made, parts_say}
use Rattle.pywheel_core.proofs.Lemmas.Tag.Pieces.{three_say}
use Rattle.pywheel_core.proofs.Lemmas.Wheel.Versions.{version_taken}

-- ---- lower case keeps `-`

pub lower_lacks : (s : List ℕ) → list_any (λ b. b == 45) (str_to_ascii_lowercase s) ≡ list_any (λ b. b == 45) s
lower_lacks [] = refl
lower_lacks (b ∷ s) = λ i. lower_eq 45 b (omega arith) i || lower_lacks s i

-- ---- three parts with `-` between them

pub three_joined : (p a q : List ℕ) → Lacks 45 p → Lacks 45 a → Lacks 45 q → three_parts 45 (p ++ (45 ∷ (a ++ (45 ∷ q)))) ≡ Some (p, a, q)
unfolding three_parts
three_joined p a q x y z =
    let first = cut_joined 45 p (a ++ (45 ∷ q)) x in
    let second = cut_joined 45 a q y in
    let third = cut_lacking 45 q z in
    rw (first, second, third) refl

four_refused : (b p a q : List ℕ) → Lacks 45 b → Lacks 45 p → Lacks 45 a → three_parts 45 (b ++ (45 ∷ (p ++ (45 ∷ (a ++ (45 ∷ q)))))) ≡ None
unfolding three_parts
four_refused b p a q x y z =
    let first = cut_joined 45 b (p ++ (45 ∷ (a ++ (45 ∷ q)))) x in
    let second = cut_joined 45 p (a ++ (45 ∷ q)) y in
    let third = cut_joined 45 a q z in
    rw (first, second, third) refl

-- ---- the extension

pub stem_says : (text stem : List ℕ) → stem_of text ≡ Some stem → text ≡ stem ++ codes ".whl"
stem_says text stem h = ending_says (codes ".whl") text stem h

pub stem_joined : (stem : List ℕ) → stem_of (stem ++ codes ".whl") ≡ Some stem
stem_joined stem = ending_joined (codes ".whl") stem

-- ---- each part that is taken

abbrev refused : WheelError → Result Parts WheelError
refused e = Err e

abbrev taken : Parts → Result Parts WheelError
taken v = Ok v

version_says : (text : List ℕ) (v : Parts) → version_in text ≡ Ok v → Spells text v × (IsLarge v → ⊥)
unfolding version_in parsed_version
version_says text v h = elim (option_cases (version_of text)) [
  | inl none ↦ absurd (let z : refused wheel.Version ≡ taken v = rw none at h in cc)
  | inr u ↦ let h2 = rw u.1 at h in elim (cases_Bool (has_large (numbers u.0))) [
    | inl large ↦ absurd (let z : refused wheel.Version ≡ taken v = rw large at h2 in cc)
    | inr small ↦
        let q : taken u.0 ≡ taken v = rw small at h2 in
        let same : u.0 ≡ v = cc in
        subst (λ p. Spells text p × (IsLarge p → ⊥)) same (version_sound text u.0 u.1, λ l. true≢false (sym l ∙ small))
  ]
]

build_says : (build found : Option (List ℕ)) → build_in build ≡ Ok found → (build ≡ found) × IfSome build (λ b. is_build b ≡ true)
build_says None found h = (cc, tt)
build_says (Some b) found h = let p = if_ok (is_build b) (Some b) found wheel.Build h in (p.1, p.0)

set_says : (text : List ℕ) (t : TagParts) (found : List ℕ × List TagValue) → three_parts 45 (str_to_ascii_lowercase text) ≡ Some t → tag_set_in text ≡ Ok found
    → (is_tag_set t ≡ true) × (tags_in t ≡ found.1)
unfolding tag_set_in set_tags_in
set_says text t found three h =
    let lower = str_to_ascii_lowercase text in
    let x = bind_ok (set_tags_in lower) (λ tags. Ok (lower, tags)) found h in
    let y = bind_ok (ok_or (three_parts 45 lower) wheel.Tags) (λ parts. if is_tag_set parts then Ok (tags_in parts) else Err wheel.Tags) x.0 x.1 in
    let same : t ≡ y.0 = same_Some t y.0 (sym three ∙ ok_or_some (three_parts 45 lower) wheel.Tags y.0 y.1) in
    let z = if_ok (is_tag_set y.0) (tags_in y.0) x.0 wheel.Tags y.2 in
    let all = x.2 in
    let q : (lower, x.0) ≡ found = cc in
    (subst (λ p. is_tag_set p ≡ true) (sym same) z.0, ap tags_in same ∙ (z.1 ∙ ap (λ r. r.1) q))

-- ---- what is read is what the relation says

set_is : (p a q : List ℕ) (tags : List TagValue) → is_tag_set (p, a, q) ≡ true → tags_in (p, a, q) ≡ tags → IsTagSet (p, a, q) tags
set_is p a q tags ok made =
    let x = and_parts (has_tag_parts (p, a, q)) (nat_le (tag_count (p, a, q)) TAGS_LIMIT) ok in
    let y = and_parts (are_tag_parts (pieces p)) (are_tag_parts (pieces a) && are_tag_parts (pieces q)) x.0 in
    let z = and_parts (are_tag_parts (pieces a)) (are_tag_parts (pieces q)) y.1 in
    let few = x.1 in
    record { python = y.0; abi = z.0; platform = z.1; few = grind (arith, nat_tests, few); triples = sym made }

whole_name : (text stem name spelling : List ℕ) (build : Option (List ℕ)) (set p a q : List ℕ) → text ≡ stem ++ codes ".whl" → stem ≡ name ++ (45 ∷ (spelling ++ (45 ∷ with_build build set)))
    → set ≡ p ++ (45 ∷ (a ++ (45 ∷ q))) → text ≡ join_dashed (name ∷ (spelling ∷ (option_to_list build ++ (p ∷ (a ∷ (q ∷ [])))))) ++ codes ".whl"
whole_name text stem name spelling None set p a q x y z = x ∙ (λ i. (y ∙ ap (λ l. name ++ (45 ∷ (spelling ++ (45 ∷ l)))) z) i ++ codes ".whl")
whole_name text stem name spelling (Some b) set p a q x y z = x ∙ (λ i. (y ∙ ap (λ l. name ++ (45 ∷ (spelling ++ (45 ∷ (b ++ (45 ∷ l)))))) z) i ++ codes ".whl")

both_of : (build : Option (List ℕ)) → IfSome build (Lacks 45) → IfSome build (λ b. is_build b ≡ true) → IfSome build (λ b. IsUndashed b × (is_build b ≡ true))
both_of None x y = tt
both_of (Some b) x y = (x, y)

pub wheel_says : (text : List ℕ) (w : WheelValue) → wheel_of text ≡ Ok w → Wheel text w.name w.version w.build w.tags
unfolding wheel_of wheel_in name_in
wheel_says text w h =
    let x = bind_ok (ok_or (stem_of text) wheel.Extension) (λ stem. ok_or (parts_of stem) wheel.Parts >>= λ parts. wheel_in parts) w h in
    let stem = stem_says text x.0 (ok_or_some (stem_of text) wheel.Extension x.0 x.1) in
    let y = bind_ok (ok_or (parts_of x.0) wheel.Parts) (λ parts. wheel_in parts) w x.2 in
    let parts = y.0 in
    let say = parts_say x.0 parts (ok_or_some (parts_of x.0) wheel.Parts parts y.1) in
    let n = bind_ok (name_in parts.name) (λ name. version_in parts.version >>= λ version. build_in parts.build >>= λ build. tag_set_in parts.tag_set >>= λ set.
    Ok (record { name = name; version = version; build = build; tag_set = set.0; tags = set.1 })) w y.2 in
    let v = bind_ok (version_in parts.version) (λ version. build_in parts.build >>= λ build. tag_set_in parts.tag_set >>= λ set.
    Ok (record { name = n.0; version = version; build = build; tag_set = set.0; tags = set.1 })) w n.2 in
    let b = bind_ok (build_in parts.build) (λ build. tag_set_in parts.tag_set >>= λ set.
    Ok (record { name = n.0; version = v.0; build = build; tag_set = set.0; tags = set.1 })) w v.2 in
    let s = bind_ok (tag_set_in parts.tag_set) (λ set.
    Ok (record { name = n.0; version = v.0; build = b.0; tag_set = set.0; tags = set.1 })) w b.2 in
    let made : WheelValue = record { name = n.0; version = v.0; build = b.0; tag_set = s.0.0; tags = s.0.1 } in
    let last = s.2 in
    let is : made ≡ w = cc in
    let name = if_ok (is_wheel_name parts.name) parts.name n.0 wheel.Name n.1 in
    let version = version_says parts.version v.0 v.1 in
    let build = build_says parts.build b.0 b.1 in
    let t = say.4.0 in
    let three = three_say 45 parts.tag_set t say.4.1 in
    let lower : TagParts = (str_to_ascii_lowercase t.0, str_to_ascii_lowercase t.1, str_to_ascii_lowercase t.2) in
    let lowered : three_parts 45 (str_to_ascii_lowercase parts.tag_set) ≡ Some lower = lower_cut_set parts.tag_set t say.4.1 in
    let set = set_says parts.tag_set lower s.0 lowered s.1 in
    let it : Wheel text parts.name v.0 parts.build s.0.1 = record {
      spelling = parts.version;
      python = t.0;
      abi = t.1;
      platform = t.2;
      whole = whole_name text x.0 parts.name parts.version parts.build parts.tag_set t.0 t.1 t.2 stem say.0 three.0;
      is_name = name.0;
      is_undashed = say.2;
      spells = version.0;
      fits = version.1;
      is_build = both_of parts.build say.3 build.1;
      is_tag_set = set_is lower.0 lower.1 lower.2 s.0.1 set.0 set.1;
    } in
    let P : List ℕ × Parts × Option (List ℕ) × List TagValue → Type 0 = λ f. Wheel text f.0 f.1 f.2 f.3 in
    subst P (λ i. ((name.1 ∙ ap (λ u. u.name) is) i, ap (λ u. u.version) is i, (build.0 ∙ ap (λ u. u.build) is) i, ap (λ u. u.tags) is i)) it

-- ---- and the other way round

tag_byte_no_dash : (b : ℕ) → is_word_byte b ≡ true → (b == 45) ≡ false
tag_byte_no_dash b h = grind (arith, nat_tests, h)

name_byte_no_dash : (b : ℕ) → is_wheel_name_byte b ≡ true → (b == 45) ≡ false
name_byte_no_dash b h = grind (arith, nat_tests, h)

pub part_lacks : (s : List ℕ) → is_tag_part s ≡ true → Lacks 45 s
part_lacks s h = bytes_lack is_word_byte tag_byte_no_dash s (and_parts (nat_lt 0 (length s)) (list_all is_word_byte s) h).1

joined_lack : (ps : List (List ℕ)) → are_tag_parts ps ≡ true → Lacks 45 (join_with_byte 46 ps)
joined_lack [] h = refl
joined_lack (p ∷ []) h = part_lacks p (and_parts (is_tag_part p) true h).0
joined_lack (p ∷ (q ∷ ps)) h =
    let x = and_parts (is_tag_part p) (are_tag_parts (q ∷ ps)) h in
    lacks_both p (46 ∷ join_with_byte 46 (q ∷ ps)) (part_lacks p x.0) (joined_lack (q ∷ ps) x.1)

pieces_lack : (s : List ℕ) → are_tag_parts (pieces s) ≡ true → Lacks 45 s
pieces_lack s h = subst (Lacks 45) (join_with_byte-slice_split 46 s) (joined_lack (pieces s) h)

joined_is : (name spelling : List ℕ) (build : Option (List ℕ)) (p a q : List ℕ)
    → join_dashed (name ∷ (spelling ∷ (option_to_list build ++ (p ∷ (a ∷ (q ∷ [])))))) ≡ name ++ (45 ∷ (spelling ++ (45 ∷ with_build build (p ++ (45 ∷ (a ++ (45 ∷ q)))))))
joined_is name spelling None p a q = refl
joined_is name spelling (Some b) p a q = refl

pub name_taken : (name : List ℕ) → is_wheel_name name ≡ true → name_in name ≡ Ok name
unfolding name_in
name_taken name e = rw e refl

build_taken : (build : Option (List ℕ)) → IfSome build (λ b. IsUndashed b × (is_build b ≡ true)) → build_in build ≡ Ok build
build_taken None h = refl
build_taken (Some b) h = let e = h.1 in rw e refl

build_lacks : (build : Option (List ℕ)) → IfSome build (λ b. IsUndashed b × (is_build b ≡ true)) → IfSome build (Lacks 45)
build_lacks None h = tt
build_lacks (Some b) h = h.0

build_four : (build : Option (List ℕ)) (p a q : List ℕ) → IfSome build (λ b. IsUndashed b × (is_build b ≡ true)) → Lacks 45 p → Lacks 45 a
    → IfSome build (λ b. three_parts 45 (b ++ (45 ∷ (p ++ (45 ∷ (a ++ (45 ∷ q)))))) ≡ None)
build_four None p a q h x y = tt
build_four (Some b) p a q h x y = four_refused b p a q h.0 x y

tag_set_in_complete : (set : List ℕ) (t : TagParts) → three_parts 45 (str_to_ascii_lowercase set) ≡ Some t → is_tag_set t ≡ true → tag_set_in set ≡ Ok (str_to_ascii_lowercase set, tags_in t)
unfolding tag_set_in set_tags_in
tag_set_in_complete set t e ok = rw (e, ok) refl

set_holds : (t : TagParts) (tags : List TagValue) → IsTagSet t tags → is_tag_set t ≡ true
set_holds t tags x =
    let python = x.python in let abi = x.abi in let platform = x.platform in let small = x.few in
    let few : nat_le (tag_count t) TAGS_LIMIT ≡ true = grind (arith, nat_tests, small) in
    rw (python, abi, platform, few) refl

pub wheel_made : (text name : List ℕ) (version : Parts) (build : Option (List ℕ)) (tags : List TagValue) → Wheel text name version build tags
    → (set : List ℕ) × (wheel_of text ≡ Ok (record { name = name; version = version; build = build; tag_set = set; tags = tags }))
unfolding wheel_of wheel_in
wheel_made text name version build tags x =
    let p = x.python in let a = x.abi in let q = x.platform in
    let set = p ++ (45 ∷ (a ++ (45 ∷ q))) in
    let lower = str_to_ascii_lowercase set in
    let t : TagParts = (str_to_ascii_lowercase p, str_to_ascii_lowercase a, str_to_ascii_lowercase q) in
    let lp : Lacks 45 p = sym (lower_lacks p) ∙ pieces_lack (str_to_ascii_lowercase p) x.is_tag_set.python in
    let la : Lacks 45 a = sym (lower_lacks a) ∙ pieces_lack (str_to_ascii_lowercase a) x.is_tag_set.abi in
    let lq : Lacks 45 q = sym (lower_lacks q) ∙ pieces_lack (str_to_ascii_lowercase q) x.is_tag_set.platform in
    let ln : Lacks 45 name = bytes_lack is_wheel_name_byte name_byte_no_dash name
    (and_parts (nat_lt 0 (length name)) (list_all is_wheel_name_byte name) (and_parts (nat_lt 0 (length name) && list_all is_wheel_name_byte name) (not (has_pair 95 name)) x.is_name).0).1 in
    let stem = name ++ (45 ∷ (x.spelling ++ (45 ∷ with_build build set))) in
    let parts : WheelParts = record { name = name; version = x.spelling; build = build; tag_set = set } in
    let e1 : stem_of text ≡ Some stem = ap stem_of (x.whole ∙ ap (λ l. l ++ codes ".whl") (joined_is name x.spelling build p a q)) ∙ stem_joined stem in
    let e2 : parts_of stem ≡ Some parts = parts_made name x.spelling build set (p, a, q) ln x.is_undashed (build_lacks build x.is_build) (three_joined p a q lp la lq) (build_four build p a q x.is_build lp la) in
    let e4 = version_taken x.spelling version (version_complete x.spelling version x.spells) x.fits in
    let e5 = build_taken build x.is_build in
    let e6 = tag_set_in_complete set t (lower_cut_set set (p, a, q) (three_joined p a q lp la lq)) (set_holds t tags x.is_tag_set) in (
      lower,
      ap (λ o. ok_or o wheel.Extension >>= λ s. ok_or (parts_of s) wheel.Parts >>= λ u. wheel_in u) e1
          ∙ (ap (λ o. ok_or o wheel.Parts >>= λ u. wheel_in u) e2
          ∙ (ap (λ r. r >>= λ n. version_in x.spelling >>= λ v. build_in build >>= λ b. tag_set_in set >>= λ s. Ok (record { name = n; version = v; build = b; tag_set = s.0; tags = s.1 })) (name_taken name x.is_name)
          ∙ (ap (λ r. r >>= λ v. build_in build >>= λ b. tag_set_in set >>= λ s. Ok (record { name = name; version = v; build = b; tag_set = s.0; tags = s.1 })) e4
          ∙ (ap (λ r. r >>= λ b. tag_set_in set >>= λ s. Ok (record { name = name; version = version; build = b; tag_set = s.0; tags = s.1 })) e5
          ∙ (ap (λ r. r >>= λ s. Ok (record { name = name; version = version; build = build; tag_set = s.0; tags = s.1 })) e6
          ∙ ap (λ all. Ok (record { name = name; version = version; build = build; tag_set = lower; tags = all })) (sym x.is_tag_set.triples)))))),
    )

-- ---- what a call gives

pub given_wheel : (text : List ℕ) (r : Result WheelValue WheelError) → Gives wheel.Memory (λ w. w) r (wheel_of text) → IfOk r (λ w. Wheel text w.name w.version w.build w.tags)
given_wheel text (Ok w) h = wheel_says text w h
given_wheel text (Err e) h = tt

pub given_no_wheel : (text : List ℕ) (r : Result WheelValue WheelError) → Gives wheel.Memory (λ w. w) r (wheel_of text)
    → IfErr r (λ e. e ≢ wheel.Memory → (name : List ℕ) (version : Parts) (build : Option (List ℕ)) (tags : List TagValue) → Wheel text name version build tags → ⊥)
given_no_wheel text (Ok w) h = tt
given_no_wheel text (Err e) h = λ other name version build tags x.
    let made = (wheel_made text name version build tags x).1 in
    let refused = h other in
    absurd cc

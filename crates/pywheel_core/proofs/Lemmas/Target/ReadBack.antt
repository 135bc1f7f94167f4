-- The text of each tag of a target is read as that tag, and those texts as the list.
use Rattle.std.proofs.Common.{◌≡◌, ℕ, suc, ◌+◌, ◌<◌, ◌≤◌, Bool, true, false, ◌==◌, ◌&&◌, ◌||◌, ◌^◌, nat_le, nat_lt, if◌then◌else◌, List, [], ◌∷◌, ◌++◌, codes, decimal, fold, get_or, length, map, Result, Ok, refl, sym, subst, ap, ◌∙◌, ◌⊎◌, inl, inr, arith}
use Rattle.std.proofs.lemmas.Bool.Decides.{nat_tests}
use Rattle.std.proofs.lemmas.Bool.{and_parts, cases_Bool}
use Rattle.std.proofs.lemmas.List.{map-append}
use Rattle.std.specs.Char.{to_ascii_lowercase}
use Rattle.std.specs.List.{list_all}
use Rattle.std.specs.Str.{str_to_ascii_lowercase}
use Rattle.pytext.specs.Bytes.{is_word_byte}
use Rattle.pywheel_core.proofs.Lemmas.Tag.Listing.{tag_made}
use Rattle.pywheel_core.proofs.Lemmas.Target.Compatible.{all_pure, compatible_of}
use Rattle.pywheel_core.proofs.Lemmas.Target.Distinct.{added_tags, own_letter, stable_letter}
use Rattle.pywheel_core.proofs.Lemmas.Target.Parts.{IsPlain, abis_plain, is_plain_byte, platforms_plain, python_bounds, pythons_plain, small_decimal}
use Rattle.pywheel_core.proofs.Lemmas.Target.Platforms.{runs_in}
use Rattle.pywheel_core.proofs.Lemmas.Target.Read.{read_known}
use Rattle.pywheel_core.proofs.TargetLemmas.{cpython_in, platform_there}
use Rattle.pywheel_core.specs.Tag.{TagText, TagValue, at_position, is_tag_part, tag_of, tag_text, tags_after, tags_of, with_tag}
use Rattle.pywheel_core.specs.Target.Compatible.{IsCompatible, IsGlibcName, IsOneOf, IsPair, IsPurePython, RunsOn}
use Rattle.pywheel_core.specs.Target.Reading.{target_of}
use Rattle.pywheel_core.specs.Target.Tags.{any_platform, cpython_name, own_abi, stable_abi, target_tags}
use Rattle.pywheel_core.specs.Target.Value.{TargetValue, is_target}
use Rattle.pywheel_core.specs.declared.target.cpython.CPython.{CPython}
use Rattle.pywheel_core.specs.declared.target.platform.Platform.{Platform}
use Rattle.pywheel_core.specs.declared.target.platform.Platform.TheVariants as platform
use Rattle.pywheel_core.specs.declared.target.platform.WindowsArch.TheVariants as windows

-- ---- texts of small letters, digits and `_`

word_byte : (b : ℕ) → is_plain_byte b ≡ true → is_word_byte b ≡ true
word_byte b h = grind (arith, nat_tests)

lower_byte : (b : ℕ) → is_plain_byte b ≡ true → to_ascii_lowercase b ≡ b
lower_byte b h = grind (arith, nat_tests)

words_bytes : (w : List ℕ) → IsPlain w → list_all is_word_byte w ≡ true
words_bytes [] h = refl
words_bytes (b ∷ w) h =
    let p = and_parts (is_plain_byte b) (list_all is_plain_byte w) h in
    let e = word_byte b p.0 in rw e (words_bytes w p.1)

lower_word : (w : List ℕ) → IsPlain w → str_to_ascii_lowercase w ≡ w
lower_word [] h = refl
lower_word (b ∷ w) h =
    let p = and_parts (is_plain_byte b) (list_all is_plain_byte w) h in
    λ i. lower_byte b p.0 i ∷ lower_word w p.1 i

-- a text that may be a part of a tag, in lower case
abbrev IsPart : List ℕ → Type 0
IsPart w = IsPlain w × (0 < length w)

part_test : (w : List ℕ) → IsPart w → is_tag_part w ≡ true
part_test w h =
    let some = h.1 in
    let e : nat_lt 0 (length w) ≡ true = grind (arith, nat_tests) in
    let all = words_bytes w h.0 in rw (e, all) refl

lower_tag : (x : TagValue) → IsPart x.python → IsPart x.abi → IsPart x.platform → str_to_ascii_lowercase (tag_text x) ≡ tag_text x
lower_tag x p a q =
    map-append to_ascii_lowercase x.python (45 ∷ (x.abi ++ (45 ∷ x.platform)))
    ∙ (λ i. lower_word x.python p.0 i ++ (45 ∷ (map-append to_ascii_lowercase x.abi (45 ∷ x.platform) i)))
    ∙ (λ i. x.python ++ (45 ∷ (lower_word x.abi a.0 i ++ (45 ∷ lower_word x.platform q.0 i))))

read_tag : (x : TagValue) → IsPart x.python → IsPart x.abi → IsPart x.platform → tag_of (tag_text x) ≡ Ok x
read_tag x p a q = tag_made (tag_text x) x (record {
  whole = lower_tag x p a q;
  python = part_test x.python p;
  abi = part_test x.abi a;
  platform = part_test x.platform q;
})

-- ---- the parts of a compatible tag

abbrev behind : (w a : List ℕ) → w ≡ a → 0 < length a → 0 < length w
behind w a e h = subst (λ t. 0 < length t) (sym e) h

some_letter : (w : List ℕ) → 0 < get_or w 0 0 → 0 < length w
some_letter [] h = absurd (omega (arith, h))
some_letter (b ∷ w) h = omega arith

pure_some : (minor : ℕ) (w : List ℕ) → IsPurePython minor w → 0 < length w
pure_some minor w (inl e) = behind w _ e (omega arith)
pure_some minor w (inr (inl e)) = behind w _ e (omega arith)
pure_some minor w (inr (inr (older, high, e))) = behind w _ e (omega arith)

pair_parts : (p : CPython) (python abi : List ℕ) → p.minor < 256 → IsPair p python abi → IsPart python × IsPart abi
pair_parts p python abi small (inl (e, f)) =
    ((pythons_plain p.minor small python (inl e), behind python _ e (omega arith)), (abis_plain p small abi (inl f), let x = own_letter p in behind abi _ f (some_letter (own_abi p) (omega (arith, x)))))
pair_parts p python abi small (inr (inl (older, low, high, e, f))) =
    ((subst IsPlain (sym e) (small_decimal older (omega arith)), behind python _ e (omega arith)), (abis_plain p small abi (inr (inl f)), let x = stable_letter p in behind abi _ f (some_letter (stable_abi p) (omega (arith, x)))))
pair_parts p python abi small (inr (inr (pure, f))) =
    ((pythons_plain p.minor small python (all_pure p.minor python pure), pure_some p.minor python pure), (abis_plain p small abi (inr (inr (inl f))), behind abi _ f (omega arith)))

runs_some : (p : Platform) (w : List ℕ) → RunsOn p w → 0 < length w
runs_some (platform.Manylinux minor arch) w (inl e) = behind w _ e (omega arith)
runs_some (platform.Manylinux minor arch) w (inr (older, low, high, inl e)) = behind w _ e (omega arith)
runs_some (platform.Manylinux minor arch) w (inr (older, low, high, inr (inl e))) = behind w _ e.1 (omega arith)
runs_some (platform.Manylinux minor arch) w (inr (older, low, high, inr (inr (inl e)))) = behind w _ e.1 (omega arith)
runs_some (platform.Manylinux minor arch) w (inr (older, low, high, inr (inr (inr e)))) = behind w _ e.1 (omega arith)
runs_some (platform.Musllinux minor arch) w (inl e) = behind w _ e (omega arith)
runs_some (platform.Musllinux minor arch) w (inr (older, high, e)) = behind w _ e (omega arith)
runs_some (platform.MacOs major minor arch) w (than, f, version, later, format, e) = behind w _ e (omega arith)
runs_some (platform.Windows windows.X86) w e = behind w _ e (omega arith)
runs_some (platform.Windows windows.Amd64) w e = behind w _ e (omega arith)
runs_some (platform.Windows windows.Arm64) w e = behind w _ e (omega arith)

-- the parts of a tag of a target
parts_of : (t : TargetValue) (x : TagValue) → is_target t ≡ true → IsOneOf x (target_tags t) → IsPart x.python × IsPart x.abi × IsPart x.platform
parts_of t x known h =
    let c = compatible_of t x known h in
    let pair = pair_parts t.python x.python x.abi (python_bounds t.python (cpython_in t known)).1 c.0 in (
      pair.0,
      pair.1,
      elim c.1 [
        | inl runs ↦ (platforms_plain t.platform (platform_there t known) x.platform (runs_in t.platform x.platform (platform_there t known) runs), runs_some t.platform x.platform runs)
        | inr any ↦ (subst IsPlain (sym any.1) refl, behind x.platform any_platform any.1 (omega arith))
      ],
    )

pub tag_parts_plain : (t : TargetValue) (x : TagValue) → is_target t ≡ true → IsOneOf x (target_tags t) → IsPlain x.python × IsPlain x.abi × IsPlain x.platform
tag_parts_plain t x known h = let p = parts_of t x known h in (p.0.0, p.1.0, p.2.0)

pub tag_reads : (t : TargetValue) (x : TagValue) → is_target t ≡ true → IsOneOf x (target_tags t) → tag_of (tag_text x) ≡ Ok x
tag_reads t x known h = let p = parts_of t x known h in read_tag x p.0 p.1 p.2

-- the numbers of a release
pub numbers_fit : (t : TargetValue) → is_target t ≡ true → (t.python.minor < 2 ^ 64) × (t.python.micro < 2 ^ 64)
numbers_fit t known =
    let p = t.python in
    let x = and_parts (nat_le 8 p.minor) _ (cpython_in t known) in
    let y = and_parts (nat_le p.minor 99) _ x.1 in
    let z = and_parts (nat_le p.micro 999) _ y.1 in
    let a = y.0 in let b = z.0 in (grind (arith, nat_tests), grind (arith, nat_tests))

-- ---- the list

texts_read : (front tags : List TagValue) (place : ℕ) → ((x : TagValue) → IsOneOf x tags → tag_of (tag_text x) ≡ Ok x) → tags_after front place (map tag_text tags) ≡ Ok (fold with_tag front tags)
texts_read front [] place each = refl
texts_read front (x ∷ tags) place each =
    let here = each x (inl refl) in
    rw here (texts_read (with_tag front x) tags (suc place) (λ y h. each y (inr h)))

pub list_reads : (t : TargetValue) → is_target t ≡ true → tags_of (map tag_text (target_tags t)) ≡ Ok (target_tags t)
unfolding tags_of
list_reads t known = texts_read [] (target_tags t) 1 (λ x h. tag_reads t x known h) ∙ ap Ok (added_tags t known)

pub list_is_read : (python platform : List ℕ) (t : TargetValue) → target_of python platform ≡ Ok t → tags_of (map tag_text (target_tags t)) ≡ Ok (target_tags t)
list_is_read python platform t h = list_reads t (read_known python platform t h)

-- Lemmas on targets.
use Rattle.std.proofs.Common.{◌≡◌, ℕ, zero, suc, ◌+◌, ◌-◌, ◌<◌, ◌≤◌, Bool, true, false, ◌==◌, ◌&&◌, nat_le, if◌then◌else◌, List, [], ◌∷◌, ◌++◌, length, map, take, drop, subst, codes, decimal, Option, Some, None, refl, sym, ap, ◌∙◌, inl, inr, arith, fold, Bor}
use Rattle.std.proofs.lemmas.Bool.Decides.{nat_tests}
use Rattle.std.proofs.lemmas.Bool.{and_parts, cases_Bool}
use Rattle.std.proofs.lemmas.List.{append-nil, append_assoc, drop-append-le, length-append, length-drop, map-append, take-append-le}
use Rattle.std.proofs.lemmas.List.Elements.{All-head, All-push, All-tail, All-weaker}
use Rattle.std.proofs.lemmas.List.Folds.{concat-append}
use Rattle.std.proofs.lemmas.List.Sums.{fold-append}
use Rattle.std.proofs.lemmas.Option.{cond_some, same_Some}
use Rattle.std.specs.List.{concat, flat_map}
use Rattle.pytext.proofs.OptionsLemmas.{option_cases}
use Rattle.pywheel_core.proofs.Lemmas.Tag.Pieces.{whole_stands}
use Rattle.pywheel_core.specs.Inner.Words.{AreWords, joined, words_at}
use Rattle.pywheel_core.specs.Spans.{AreWithin, IsWithin, at}
use Rattle.pywheel_core.specs.Tag.{TagValue, with_tag}
use Rattle.pywheel_core.specs.Target.Names.{linux_arch_name}
use Rattle.pywheel_core.specs.Target.Platforms.{down, glibc_names, linux_name, older_names}
use Rattle.pywheel_core.specs.Target.Reading.{platform_of, python_in, python_of, python_with, release_of, shaped_platform}
use Rattle.pywheel_core.specs.Target.Value.{TargetValue, glibc_floor, is_cpython, is_intel, is_platform, is_target}
use Rattle.pywheel_core.specs.declared.target.cpython.CPython.{CPython}
use Rattle.pywheel_core.specs.declared.span.Span.{Span}
use Rattle.pywheel_core.specs.declared.target.platform.LinuxArch.{LinuxArch}
use Rattle.pywheel_core.specs.declared.target.platform.MacArch.{MacArch}
use Rattle.pywheel_core.specs.declared.target.platform.Platform.{Platform}
use Rattle.pywheel_core.specs.declared.target.platform.Platform.TheVariants as platform

-- ---- what is read is known

with_known : (is_free_threaded : Bool) (text : List ℕ) (p : CPython) → python_with is_free_threaded text ≡ Some p → is_cpython p ≡ true
unfolding python_with
with_known free text p h = elim (option_cases (release_of text)) [
  | inl none ↦ absurd (let z : None ≡ Some p = rw none at h in cc)
  | inr f ↦ let h2 = rw f.1 at h in
      let python : CPython = record { minor = f.0.0; micro = f.0.1; is_free_threaded = free } in
      let k = cond_some (is_cpython python) python p h2 in sym (ap is_cpython k.1) ∙ k.0
]

in_known : (text : List ℕ) (release : Option (List ℕ)) (p : CPython) → python_in text release ≡ Some p → is_cpython p ≡ true
in_known text None p h = with_known false text p h
in_known text (Some release) p h = with_known true release p h

pub python_known : (text : List ℕ) (p : CPython) → python_of text ≡ Some p → is_cpython p ≡ true
unfolding python_of
python_known text p h = in_known text _ p h

pub platform_known : (text : List ℕ) (p : Platform) → platform_of text ≡ Some p → is_platform p ≡ true
unfolding platform_of
platform_known text p h = elim (option_cases (shaped_platform text)) [
  | inl none ↦ absurd (let z : None ≡ Some p = rw none at h in cc)
  | inr f ↦ let h2 = rw f.1 at h in
      let k = cond_some (is_platform f.0) f.0 p h2 in sym (ap is_platform k.1) ∙ k.0
]

pub target_known : (python place : List ℕ) (p : CPython) (q : Platform) → python_of python ≡ Some p → platform_of place ≡ Some q → (is_cpython p && is_platform q) ≡ true
target_known python place p q h g = let a = python_known python p h in let b = platform_known place q g in rw (a, b) refl

pub ruleset fits = (target_known, sym)

pub cpython_in : (t : TargetValue) → is_target t ≡ true → is_cpython t.python ≡ true
cpython_in t h = (and_parts (is_cpython t.python) (is_platform t.platform) h).0

pub platform_there : (t : TargetValue) → is_target t ≡ true → is_platform t.platform ≡ true
platform_there t h = (and_parts (is_cpython t.python) (is_platform t.platform) h).1

-- ---- numbers down to one

pub down_more : (low n : ℕ) → low ≤ n → down low (n + 1) ≡ n ∷ down low n
unfolding down
down_more low n h =
    let one : n + 1 ≡ suc n = omega arith in
    let test : nat_le low n ≡ true = grind (arith, nat_tests) in
    ap (down low) one ∙ rw test refl

pub down_none : (low n : ℕ) → n ≤ low → down low n ≡ []
unfolding down
down_none low zero h = refl
down_none low (suc n) h =
    let test : nat_le low n ≡ false = grind (arith, nat_tests) in
    rw test refl

-- a loop down the numbers: what is in hand in front of what is left
pub map_step : (f : ℕ → List ℕ) (low n : ℕ) (now next : List (List ℕ)) → low < n → next ≡ now ++ f (n - 1) ∷ []
    → next ++ map f (down low (n - 1)) ≡ now ++ map f (down low n)
map_step f low n now next h e =
    let one : n ≡ n - 1 + 1 = omega arith in
    ap (λ t. t ++ map f (down low (n - 1))) e ∙ append_assoc now (f (n - 1) ∷ []) (map f (down low (n - 1)))
    ∙ ap (λ t. now ++ map f t) (sym (down_more low (n - 1) (omega arith)) ∙ ap (down low) (sym one))

pub flat_step : (f : ℕ → List (List ℕ)) (low n : ℕ) (now next : List (List ℕ)) → low < n → next ≡ now ++ f (n - 1)
    → next ++ flat_map f (down low (n - 1)) ≡ now ++ flat_map f (down low n)
flat_step f low n now next h e =
    let one : n ≡ n - 1 + 1 = omega arith in
    ap (λ t. t ++ flat_map f (down low (n - 1))) e ∙ append_assoc now (f (n - 1)) (flat_map f (down low (n - 1)))
    ∙ ap (λ t. now ++ flat_map f t) (sym (down_more low (n - 1) (omega arith)) ∙ ap (down low) (sym one))

pub map_end : (f : ℕ → List ℕ) (low n : ℕ) (now whole : List (List ℕ)) → n ≤ low → now ++ map f (down low n) ≡ whole → now ≡ whole
map_end f low n now whole h e = sym (append-nil now) ∙ ap (λ t. now ++ map f t) (sym (down_none low n h)) ∙ e

pub flat_end : (f : ℕ → List (List ℕ)) (low n : ℕ) (now whole : List (List ℕ)) → n ≤ low → now ++ flat_map f (down low n) ≡ whole → now ≡ whole
flat_end f low n now whole h e = sym (append-nil now) ∙ ap (λ t. now ++ flat_map f t) (sym (down_none low n h)) ∙ e

-- ---- a word in pieces

pub joined_is : (pieces : List (Bor (List ℕ))) → joined (map (λ piece. piece.now) pieces) ≡ flat_map (λ piece. piece.now) pieces
joined_is [] = refl
joined_is (piece ∷ []) = sym (append-nil piece.now)
joined_is (piece ∷ (next ∷ pieces)) = ap (λ t. piece.now ++ t) (joined_is (next ∷ pieces))

-- ---- a word more

at_kept : (text more : List ℕ) (span : Span) → IsWithin text span → at (text ++ more) span ≡ at text span
at_kept text more span h =
    let start : span.start ≤ length text = omega (arith, h.0, h.1) in
    let n : span.end - span.start ≤ length (drop span.start text) = omega (arith, h.0, h.1, length-drop span.start text) in
    ap (take (span.end - span.start)) (drop-append-le span.start text more start) ∙ take-append-le (span.end - span.start) (drop span.start text) more n

words_kept : (text more : List ℕ) (spans : List Span) → AreWithin text spans → words_at (text ++ more) spans ≡ words_at text spans
words_kept text more [] h = refl
words_kept text more (span ∷ spans) h =
    λ i. at_kept text more span (All-head (IsWithin text) span spans h) i ∷ words_kept text more spans (All-tail (IsWithin text) span spans h) i

within_more : (text more : List ℕ) (span : Span) → IsWithin text span → IsWithin (text ++ more) span
within_more text more span h = (h.0, omega (arith, h.1, length-append text more))

abbrev pub WordAdded : (text new : List ℕ) (spans : List Span) (word : List ℕ) (start end : ℕ) → Type 0
WordAdded text new spans word start end = AreWords new (spans ++ record { start = start; end = end } ∷ [])
    × (words_at new (spans ++ record { start = start; end = end } ∷ []) ≡ words_at text spans ++ word ∷ [])

pub word_added : (text new : List ℕ) (spans : List Span) (word : List ℕ) (start end : ℕ) → AreWords text spans → new ≡ text ++ word
    → start ≡ length text → end ≡ length new → WordAdded text new spans word start end
word_added text new spans word start end h e a b =
    let span : Span = record { start = start; end = end } in
    let n : end ≡ start + length word = b ∙ ap length e ∙ length-append text word ∙ ap (λ k. k + length word) (sym a) in
    let stands = whole_stands new text word [] start a (e ∙ ap (λ t. text ++ t) (sym (append-nil word))) in
    let here : at new span ≡ word = subst (λ k. at new (record { start = start; end = k }) ≡ word) (sym n) stands.0 in
    let within : IsWithin new span = subst (λ k. IsWithin new (record { start = start; end = k })) (sym n) stands.1 in
    let old : words_at new spans ≡ words_at text spans = subst (λ t. words_at t spans ≡ words_at text spans) (sym e) (words_kept text word spans h.0) in
    let others : AreWithin new spans = subst (λ t. AreWithin t spans) (sym e) (All-weaker (IsWithin text) (IsWithin (text ++ word)) (within_more text word) spans h.0) in
    let all : words_at new (spans ++ span ∷ []) ≡ words_at text spans ++ word ∷ [] =
    map-append (at new) spans (span ∷ []) ∙ (λ i. old i ++ here i ∷ []) in
    let whole : new ≡ concat (words_at new (spans ++ span ∷ [])) =
    e ∙ ap (λ t. t ++ word) h.1 ∙ ap (λ t. concat (words_at text spans) ++ t) (sym (append-nil word)) ∙ sym (concat-append (words_at text spans) (word ∷ [])) ∙ ap concat (sym all) in
    ((All-push (IsWithin new) spans span others within, whole), all)

-- the names of a version of glibc, with and without one of before
pub older_none : (arch : LinuxArch) (minor : ℕ) (number name : List ℕ) (now next : List (List ℕ)) → number ≡ decimal minor → name ≡ linux_arch_name arch → [] ≡ older_names minor
    → next ≡ now ++ (codes "manylinux_2_" ++ (number ++ (codes "_" ++ name))) ∷ [] → next ≡ now ++ glibc_names arch minor
older_none arch minor number name now next n a o e =
    e ∙ (λ i. now ++ (codes "manylinux_2_" ++ (n i ++ (codes "_" ++ a i))) ∷ map (λ older. older ++ (codes "_" ++ linux_arch_name arch)) (o i))

pub older_some : (arch : LinuxArch) (minor : ℕ) (number name again older : List ℕ) (now mid next : List (List ℕ)) → number ≡ decimal minor → name ≡ linux_arch_name arch → again ≡ linux_arch_name arch → older ∷ [] ≡ older_names minor
    → mid ≡ now ++ (codes "manylinux_2_" ++ (number ++ (codes "_" ++ name))) ∷ [] → next ≡ mid ++ (older ++ (codes "_" ++ again)) ∷ []
    → next ≡ now ++ glibc_names arch minor
older_some arch minor number name again older now mid next n a b o e f =
    f ∙ ap (λ t. t ++ (older ++ (codes "_" ++ again)) ∷ []) e
    ∙ append_assoc now ((codes "manylinux_2_" ++ (number ++ (codes "_" ++ name))) ∷ []) ((older ++ (codes "_" ++ again)) ∷ [])
    ∙ (λ i. now ++ (codes "manylinux_2_" ++ (n i ++ (codes "_" ++ a i))) ∷ (older ++ (codes "_" ++ b i)) ∷ [])
    ∙ (λ i. now ++ (codes "manylinux_2_" ++ (decimal minor ++ (codes "_" ++ linux_arch_name arch))) ∷ map (λ t. t ++ (codes "_" ++ linux_arch_name arch)) (o i))

-- the last word of Linux, behind the others
pub linux_last : (arch : LinuxArch) (name : List ℕ) (whole now before : List (List ℕ)) → name ≡ linux_arch_name arch → now ≡ whole ++ before
    → now ++ (codes "linux_" ++ name) ∷ [] ≡ whole ++ (before ++ linux_name arch ∷ [])
linux_last arch name whole now before n e = (λ i. e i ++ (codes "linux_" ++ n i) ∷ []) ∙ append_assoc whole before (linux_name arch ∷ [])

-- ---- small numbers

pub manylinux_fits : (minor : ℕ) (arch : LinuxArch) → is_platform (platform.Manylinux minor arch) ≡ true → minor < 100
manylinux_fits minor arch h = let p = and_parts (nat_le (glibc_floor arch) minor) (nat_le minor 99) h in let e = p.1 in grind (arith, nat_tests)

pub musllinux_fits : (minor : ℕ) (arch : LinuxArch) → is_platform (platform.Musllinux minor arch) ≡ true → minor < 100
musllinux_fits minor arch h = grind (arith, nat_tests)

mac_old : (major minor : ℕ) (arch : MacArch) → ((major == 10) && (is_intel arch && (nat_le 4 minor && nat_le minor 16))) ≡ true → (major < 100) × (minor < 100)
mac_old major minor arch h =
    let p = and_parts (major == 10) _ h in
    let q = and_parts (is_intel arch) _ p.1 in
    let r = and_parts (nat_le 4 minor) (nat_le minor 16) q.1 in
    let a = p.0 in let b = r.1 in (grind (arith, nat_tests), grind (arith, nat_tests))

mac_new : (major minor : ℕ) → (nat_le 11 major && (nat_le major 99 && (minor == 0))) ≡ true → (major < 100) × (minor < 100)
mac_new major minor h =
    let p = and_parts (nat_le 11 major) _ h in
    let q = and_parts (nat_le major 99) (minor == 0) p.1 in
    let a = q.0 in let b = q.1 in (grind (arith, nat_tests), grind (arith, nat_tests))

pub mac_fits : (major minor : ℕ) (arch : MacArch) → is_platform (platform.MacOs major minor arch) ≡ true → (major < 100) × (minor < 100)
mac_fits major minor arch h = elim (cases_Bool ((major == 10) && (is_intel arch && (nat_le 4 minor && nat_le minor 16)))) [
  | inl e ↦ mac_old major minor arch e
  | inr e ↦ mac_new major minor (rw e at h)
]

pub manylinux_small : (minor : ℕ) (arch : LinuxArch) → is_platform (platform.Manylinux minor arch) ≡ true → minor < 255
manylinux_small minor arch h = omega (arith, manylinux_fits minor arch h)

pub musllinux_small : (minor : ℕ) (arch : LinuxArch) → is_platform (platform.Musllinux minor arch) ≡ true → minor < 255
musllinux_small minor arch h = omega (arith, musllinux_fits minor arch h)

pub mac_small : (major minor : ℕ) (arch : MacArch) → is_platform (platform.MacOs major minor arch) ≡ true → (major < 255) × (minor < 255)
mac_small major minor arch h = let fits = mac_fits major minor arch h in (omega (arith, fits.0), omega (arith, fits.1))

-- ---- all words

pub five_joined : (a b c d e f0 f1 f2 f3 f4 f5 : List (List ℕ)) → f0 ≡ [] → f1 ≡ f0 ++ a → f2 ≡ f1 ++ b → f3 ≡ f2 ++ c → f4 ≡ f3 ++ d → f5 ≡ f4 ++ e
    → f5 ≡ a ++ (b ++ (c ++ (d ++ e)))
five_joined a b c d e f0 f1 f2 f3 f4 f5 p0 p1 p2 p3 p4 p5 =
    let q1 : f1 ≡ a = p1 ∙ ap (λ t. t ++ a) p0 in
    let q2 : f2 ≡ a ++ b = p2 ∙ ap (λ t. t ++ b) q1 in
    let q3 : f3 ≡ a ++ (b ++ c) = p3 ∙ ap (λ t. t ++ c) q2 ∙ append_assoc a b c in
    let q4 : f4 ≡ a ++ (b ++ (c ++ d)) = p4 ∙ ap (λ t. t ++ d) q3 ∙ append_assoc a (b ++ c) d ∙ ap (λ t. a ++ t) (append_assoc b c d) in
    p5 ∙ ap (λ t. t ++ e) q4 ∙ append_assoc a (b ++ (c ++ d)) e ∙ ap (λ t. a ++ t) (append_assoc b (c ++ d) e) ∙ ap (λ t. a ++ (b ++ t)) (append_assoc c d e)

-- ---- tags put one behind the other

pub four_added : (a b c d l0 l1 l2 l3 l4 : List TagValue) → l0 ≡ [] → l1 ≡ fold with_tag l0 a → l2 ≡ fold with_tag l1 b → l3 ≡ fold with_tag l2 c → l4 ≡ fold with_tag l3 d
    → l4 ≡ fold with_tag [] (a ++ (b ++ (c ++ d)))
four_added a b c d l0 l1 l2 l3 l4 p0 p1 p2 p3 p4 =
    let q1 : l1 ≡ fold with_tag [] a = p1 ∙ ap (λ l. fold with_tag l a) p0 in
    p4 ∙ ap (λ l. fold with_tag l d) (p3 ∙ ap (λ l. fold with_tag l c) (p2 ∙ ap (λ l. fold with_tag l b) q1))
    ∙ sym (fold-append with_tag [] a (b ++ (c ++ d)) ∙ (fold-append with_tag (fold with_tag [] a) b (c ++ d)
    ∙ fold-append with_tag (fold with_tag (fold with_tag [] a) b) c d))

-- The words of a target in their text, and the tags that they make.
use Rattle.std.proofs.Common.{◌≡◌, ℕ, zero, suc, ◌+◌, ◌-◌, ◌*◌, ◌<◌, ◌≤◌, ◌^◌, Bool, true, false, ◌&&◌, ◌||◌, ◌==◌, ◌%◌, nat_le, nat_lt, List, [], ◌∷◌, ◌++◌, codes, decimal, length, map, take, drop, refl, sym, subst, ap, ◌∙◌, inl, inr, arith, if◌then◌else◌}
use Rattle.std.proofs.Math.Seq.{drop-append_seam, take-append_seam}
use Rattle.std.proofs.lemmas.Bool.Decides.{nat_tests}
use Rattle.std.proofs.lemmas.Bool.{and_parts, cases_Bool}
use Rattle.std.proofs.lemmas.Fmt.{decimal_by_steps}
use Rattle.std.proofs.lemmas.List.{append-nil, append_assoc, drop-map, length-append, length-map, map-append, take-map}
use Rattle.std.proofs.lemmas.List.Elements.{All-append, All-drop, All-take}
use Rattle.std.proofs.lemmas.List.Folds.{list_all-append}
use Rattle.std.specs.Char.{is_ascii, is_ascii_digit, is_ascii_lowercase}
use Rattle.std.specs.List.{concat, flat_map, list_all}
use Rattle.pywheel_core.proofs.Lemmas.Target.Once.{in_append, in_down, in_flat, in_map}
use Rattle.pywheel_core.proofs.Lemmas.Tag.Pieces.{triples_at}
use Rattle.pywheel_core.proofs.TargetLemmas.{cpython_in, platform_there, manylinux_small, musllinux_small, mac_small}
use Rattle.pywheel_core.specs.Inner.TargetWords as words
use Rattle.pywheel_core.specs.Inner.TargetWords.{AreParts, AreTagParts, abi_words, parts_tags, python_words, target_words}
use Rattle.pywheel_core.specs.Inner.Words.{AreWords, words_at}
use Rattle.pywheel_core.specs.Spans.{AreWithin, IsAsciiText, IsWithin, at}
use Rattle.pywheel_core.specs.Tag.{triples}
use Rattle.pywheel_core.specs.Target.Compatible.{IsOneOf}
use Rattle.pywheel_core.specs.Target.Names.{linux_arch_name, mac_arch_name, windows_name}
use Rattle.pywheel_core.specs.Target.Platforms.{down, glibc_names, linux_name, mac_formats, mac_names, mac_platforms, manylinux_platforms, musllinux_platforms, old_mac_platforms, older_names, platforms_of}
use Rattle.pywheel_core.specs.Target.Tags.{any_platform, cpython_name, no_abi, older_cpythons, own_abi, python_name, pythons_3, stable_abi, target_tags}
use Rattle.pywheel_core.specs.Target.Value.{TargetValue, is_cpython, is_platform, is_target}
use Rattle.pywheel_core.specs.declared.span.Span.{Span}
use Rattle.pywheel_core.specs.declared.target.cpython.CPython.{CPython}
use Rattle.pywheel_core.specs.declared.target.platform.LinuxArch.{LinuxArch}
use Rattle.pywheel_core.specs.declared.target.platform.LinuxArch.TheVariants as linux
use Rattle.pywheel_core.specs.declared.target.platform.MacArch.{MacArch}
use Rattle.pywheel_core.specs.declared.target.platform.MacArch.TheVariants as mac
use Rattle.pywheel_core.specs.declared.target.platform.Platform.{Platform}
use Rattle.pywheel_core.specs.declared.target.platform.Platform.TheVariants as platform
use Rattle.pywheel_core.specs.declared.target.platform.WindowsArch.{WindowsArch}
use Rattle.pywheel_core.specs.declared.target.platform.WindowsArch.TheVariants as windows
use Rattle.pywheel_core.specs.declared.target.tags.TargetSpans.{TargetSpans}

-- ---- the words told apart

append_split : {X : Type 0} (a b c d : List X) → length a ≡ length c → a ++ b ≡ c ++ d → (a ≡ c) × (b ≡ d)
append_split [] b [] d n e = (refl, e)
append_split (x ∷ a) b (y ∷ c) d n e =
    let head : x ≡ y = cc in
    let tail : a ++ b ≡ c ++ d = cc in
    let r = append_split a b c d (omega (arith, n)) tail in
    ((λ i. head i ∷ r.0 i), r.1)
append_split a b c d n e = absurd (omega (arith, n))

pub length_down : (low n : ℕ) → length (down low n) ≡ n - low
unfolding down
length_down low zero = omega arith
length_down low (suc n) = elim (cases_Bool (nat_le low n)) [
  | inl e ↦ let rest = length_down low n in let test = e in rw e (grind (arith, nat_tests))
  | inr e ↦ let test = e in rw e (grind (arith, nat_tests))
]

length_older : (minor : ℕ) → length (older_cpythons minor) ≡ minor - 2
length_older minor = length-map (down 2 minor) cpython_name ∙ length_down 2 minor

length_pythons : (minor : ℕ) → length (python_words minor) ≡ minor + 3
length_pythons minor =
    let n = length-map (down 0 minor) python_name ∙ length_down 0 minor in omega (arith, n)

-- how many words there are at least
pub enough_words : (t : TargetValue) (spans : List Span) (f : Span → List ℕ) → 2 ≤ t.python.minor → map f spans ≡ target_words t
    → 2 * t.python.minor + 5 ≤ length spans
unfolding target_words
enough_words t spans f low e =
    let minor = t.python.minor in
    let n : length spans ≡ length (target_words t) = sym (length-map spans f) ∙ ap length e in
    let rest = python_words minor ++ platforms_of t.platform in
    let a = length-append (older_cpythons minor) rest in
    let b = length-append (python_words minor) (platforms_of t.platform) in
    let c = length_older minor in let d = length_pythons minor in
    omega (arith, n, a, b, c, d)

abbrev pub ArePartsOf : (Span → List ℕ) → TargetValue → TargetSpans → Type 0
ArePartsOf f t parts = (map f parts.abis.now ≡ abi_words t.python) × (map f parts.any.now ≡ any_platform ∷ [])
    × (map f parts.older.now ≡ older_cpythons t.python.minor) × (map f parts.pythons.now ≡ python_words t.python.minor)
    × (map f parts.platforms.now ≡ platforms_of t.platform)

map_joined : (f : Span → List ℕ) (a b : List Span) (c d : List (List ℕ)) → map f (a ++ b) ≡ c ++ d → length a ≡ length c → (map f a ≡ c) × (map f b ≡ d)
map_joined f a b c d e n = append_split (map f a) (map f b) c d (length-map a f ∙ n) (sym (map-append f a b) ∙ e)

pub parts_are : (f : Span → List ℕ) (t : TargetValue) (spans : List Span) (parts : TargetSpans) → map f spans ≡ target_words t
    → AreParts spans t.python.minor parts → ArePartsOf f t parts
unfolding target_words
parts_are f t spans parts e p =
    let minor = t.python.minor in
    let whole : map f (parts.abis.now ++ (parts.any.now ++ (parts.older.now ++ (parts.pythons.now ++ parts.platforms.now)))) ≡ target_words t = ap (map f) (sym p.whole) ∙ e in
    let a = map_joined f parts.abis.now _ (abi_words t.python) _ whole p.abis in
    let b = map_joined f parts.any.now _ (any_platform ∷ []) _ a.1 p.any in
    let c = map_joined f parts.older.now _ (older_cpythons minor) _ b.1 (p.older ∙ sym (length_older minor)) in
    let d = map_joined f parts.pythons.now _ (python_words minor) _ c.1 (p.pythons ∙ sym (length_pythons minor)) in
    (a.0, b.0, c.0, d.0, d.1)

-- the tags of the parts
pub tags_are : (text : List ℕ) (t : TargetValue) (parts : TargetSpans) → ArePartsOf (at text) t parts → parts_tags text parts ≡ target_tags t
unfolding parts_tags target_tags
tags_are text t parts p =
    let f = at text in
    let abis = parts.abis.now in let pythons = parts.pythons.now in
    let platforms = parts.platforms.now in
    let none : map f (drop 1 (drop 1 abis)) ≡ no_abi ∷ [] = sym (drop-map f 1 (drop 1 abis)) ∙ ap (drop 1) (sym (drop-map f 1 abis) ∙ ap (drop 1) p.0) in
    let stable : map f (take 1 (drop 1 abis)) ≡ stable_abi t.python ∷ [] = sym (take-map f 1 (drop 1 abis)) ∙ ap (take 1) (sym (drop-map f 1 abis) ∙ ap (drop 1) p.0) in
    let cpython : map f (take 1 pythons) ≡ cpython_name t.python.minor ∷ [] = sym (take-map f 1 pythons) ∙ ap (take 1) p.3 in
    let others : map f (drop 1 pythons) ≡ pythons_3 t.python.minor = sym (drop-map f 1 pythons) ∙ ap (drop 1) p.3 in
    (λ i. triples_at text (take 1 pythons) abis platforms i
    ++ (triples_at text parts.older.now (take 1 (drop 1 abis)) platforms i
    ++ (triples_at text (drop 1 pythons) (drop 1 (drop 1 abis)) platforms i
    ++ triples_at text pythons (drop 1 (drop 1 abis)) parts.any.now i)))
    ∙ (λ i. triples (cpython i) (p.0 i) (p.4 i) ++ (triples (p.2 i) (stable i) (p.4 i) ++ (triples (others i) (none i) (p.4 i) ++ triples (p.3 i) (none i) (p.1 i))))

-- ---- the bytes of the words

-- an ASCII digit or lower-case letter, or `_`
abbrev pub is_plain_byte : ℕ → Bool
is_plain_byte b = is_ascii_digit b || (is_ascii_lowercase b || (b == 95))

abbrev pub IsPlain : List ℕ → Type 0
IsPlain word = list_all is_plain_byte word ≡ true

pub plain_both : (s t : List ℕ) → IsPlain s → IsPlain t → IsPlain (s ++ t)
plain_both s t h g = list_all-append is_plain_byte s t ∙ rw (h, g) refl

plain_digit : (n : ℕ) → n < 10 → is_plain_byte (48 + n) ≡ true
plain_digit n h = grind (arith, nat_tests)

pub plain_decimal : (n : ℕ) → n < 2 ^ 64 → IsPlain (decimal n)
plain_decimal n h = decimal_by_steps (λ _ ds. IsPlain ds) (λ k small. let e = plain_digit k small in rw e refl)
    (λ k ds big rest. let e = plain_digit (k % 10) (omega arith) in plain_both ds ((48 + k % 10) ∷ []) rest (rw e refl)) n h

pub linux_plain : (arch : LinuxArch) → IsPlain (linux_arch_name arch)
linux_plain linux.X86_64 = refl
linux_plain arch = refl

windows_plain : (arch : WindowsArch) → IsPlain (windows_name arch)
windows_plain windows.X86 = refl
windows_plain arch = refl

-- all of them
abbrev pub ArePlain : List (List ℕ) → Type 0
ArePlain words = (w : List ℕ) → IsOneOf w words → IsPlain w

plain_append : (a b : List (List ℕ)) → ArePlain a → ArePlain b → ArePlain (a ++ b)
plain_append a b p q w h = elim (in_append w a b h) [ inl x ↦ p w x | inr y ↦ q w y ]

plain_one : (word : List ℕ) → IsPlain word → ArePlain (word ∷ [])
plain_one word p w (inl e) = subst IsPlain (sym e) p
plain_one word p w (inr h) = absurd h

plain_map : (f : ℕ → List ℕ) (low n : ℕ) → n ≤ 256 → ((k : ℕ) → k < 256 → IsPlain (f k)) → ArePlain (map f (down low n))
plain_map f low n small each w h =
    let r = in_map f w (down low n) h in
    let b = in_down low n r.0 r.1 in
    subst IsPlain (sym r.2) (each r.0 (omega (arith, b.1)))

plain_flat : (f : ℕ → List (List ℕ)) (low n : ℕ) → n ≤ 256 → ((k : ℕ) → k < 256 → ArePlain (f k)) → ArePlain (flat_map f (down low n))
plain_flat f low n small each w h =
    let r = in_flat f w (down low n) h in
    let b = in_down low n r.0 r.1 in
    each r.0 (omega (arith, b.1)) w r.2

pub small_decimal : (n : ℕ) → n < 256 → IsPlain (decimal n)
small_decimal n h = plain_decimal n (omega arith)

older_plain : (minor : ℕ) → ArePlain (older_names minor)
older_plain minor = elim (cases_Bool (minor == 17)) [
  | inl e ↦ rw e (plain_one (codes "manylinux2014") refl)
  | inr e ↦ elim (cases_Bool (minor == 12)) [
    | inl f ↦ rw (e, f) (plain_one (codes "manylinux2010") refl)
    | inr f ↦ elim (cases_Bool (minor == 5)) [
      | inl g ↦ rw (e, f, g) (plain_one (codes "manylinux1") refl)
      | inr g ↦ rw (e, f, g) (λ w h. absurd h)
    ]
  ]
]

glibc_plain : (arch : LinuxArch) (minor : ℕ) → minor < 256 → ArePlain (glibc_names arch minor)
glibc_plain arch minor small w (inl e) = subst IsPlain (sym e) (plain_both (decimal minor) (95 ∷ linux_arch_name arch) (small_decimal minor small) (linux_plain arch))
glibc_plain arch minor small w (inr h) =
    let r = in_map (λ name. name ++ (codes "_" ++ linux_arch_name arch)) w (older_names minor) h in
    subst IsPlain (sym r.2) (plain_both r.0 (95 ∷ linux_arch_name arch) (older_plain minor r.0 r.1) (linux_plain arch))

intel_plain : ArePlain (mac_formats mac.X86_64 0)
intel_plain w (inl e) = subst IsPlain (sym e) refl
intel_plain w (inr (inl e)) = subst IsPlain (sym e) refl
intel_plain w (inr (inr (inl e))) = subst IsPlain (sym e) refl
intel_plain w (inr (inr (inr (inl e)))) = subst IsPlain (sym e) refl
intel_plain w (inr (inr (inr (inr (inl e))))) = subst IsPlain (sym e) refl
intel_plain w (inr (inr (inr (inr (inr (inl e)))))) = subst IsPlain (sym e) refl
intel_plain w (inr (inr (inr (inr (inr (inr h)))))) = absurd h

mac_format_plain : (arch : MacArch) (major : ℕ) → ArePlain (mac_formats arch major)
mac_format_plain mac.X86_64 major = intel_plain
mac_format_plain mac.Arm64 major = elim (cases_Bool (nat_lt major 11)) [
  | inl e ↦ rw e (plain_one (codes "universal2") refl)
  | inr e ↦ rw e (plain_append (codes "arm64" ∷ []) (codes "universal2" ∷ []) (plain_one (codes "arm64") refl) (plain_one (codes "universal2") refl))
]

mac_plain : (arch : MacArch) (major minor : ℕ) → major < 256 → minor < 256 → ArePlain (mac_names arch major minor)
mac_plain arch major minor a b w h =
    let r = in_map (λ format. codes "macosx_" ++ (decimal major ++ (codes "_" ++ (decimal minor ++ (codes "_" ++ format))))) w (mac_formats arch major) h in
    subst IsPlain (sym r.2) (plain_both (decimal major) (95 ∷ (decimal minor ++ (95 ∷ r.0))) (small_decimal major a)
    (plain_both (decimal minor) (95 ∷ r.0) (small_decimal minor b) (mac_format_plain arch major r.0 r.1)))

pub platforms_plain : (p : Platform) → is_platform p ≡ true → ArePlain (platforms_of p)
unfolding manylinux_platforms musllinux_platforms mac_platforms
platforms_plain (platform.Manylinux minor arch) h =
    let small = manylinux_small minor arch h in
    plain_append _ (linux_name arch ∷ []) (plain_flat (glibc_names arch) _ (minor + 1) (omega arith) (glibc_plain arch)) (plain_one (linux_name arch) (linux_plain arch))
platforms_plain (platform.Musllinux minor arch) h =
    let small = musllinux_small minor arch h in
    plain_append _ (linux_name arch ∷ [])
    (plain_map _ 0 (minor + 1) (omega arith) (λ k less. plain_both (decimal k) (95 ∷ linux_arch_name arch) (small_decimal k less) (linux_plain arch)))
    (plain_one (linux_name arch) (linux_plain arch))
platforms_plain (platform.MacOs major minor arch) h =
    let small = mac_small major minor arch h in
    let old : (end : ℕ) → end ≤ 256 → ArePlain (old_mac_platforms arch end) = λ end less. plain_flat (mac_names arch 10) 4 end less (λ k few. mac_plain arch 10 k (omega arith) few) in
    elim (cases_Bool (nat_lt major 11)) [
      | inl e ↦ rw e (old (minor + 1) (omega (arith, small.1)))
      | inr e ↦ rw e (plain_append _ (old_mac_platforms arch 17)
          (plain_flat (λ version. mac_names arch version 0) 11 (major + 1) (omega (arith, small.0)) (λ k few. mac_plain arch k 0 few (omega arith)))
          (old 17 (omega arith)))
    ]
platforms_plain (platform.Windows arch) h = plain_one (windows_name arch) (windows_plain arch)

pub python_bounds : (p : CPython) → is_cpython p ≡ true → (2 ≤ p.minor) × (p.minor < 256)
python_bounds p h =
    let x = and_parts (nat_le 8 p.minor) _ h in
    let y = and_parts (nat_le p.minor 99) _ x.1 in
    let a = x.0 in let b = y.0 in (grind (arith, nat_tests), grind (arith, nat_tests))

pub least_minor : (t : TargetValue) → is_target t ≡ true → 2 ≤ t.python.minor
least_minor t h = (python_bounds t.python (cpython_in t h)).0

pub abis_plain : (p : CPython) → p.minor < 256 → ArePlain (abi_words p)
abis_plain p small w (inl e) = subst IsPlain (sym e) (own p.is_free_threaded)
  where
    own : (free : Bool) → IsPlain (if free then cpython_name p.minor ++ codes "t" else cpython_name p.minor)
    own true = plain_both (decimal p.minor) (codes "t") (small_decimal p.minor small) refl
    own false = small_decimal p.minor small
abis_plain p small w (inr (inl e)) = subst IsPlain (sym e) (stable p.is_free_threaded)
  where
    stable : (free : Bool) → IsPlain (if free then codes "abi3t" else codes "abi3")
    stable true = refl
    stable false = refl
abis_plain p small w (inr (inr (inl e))) = subst IsPlain (sym e) refl
abis_plain p small w (inr (inr (inr h))) = absurd h

pub pythons_plain : (minor : ℕ) → minor < 256 → ArePlain (python_words minor)
pythons_plain minor small w (inl e) = subst IsPlain (sym e) (small_decimal minor small)
pythons_plain minor small w (inr (inl e)) = subst IsPlain (sym e) (small_decimal minor small)
pythons_plain minor small w (inr (inr (inl e))) = subst IsPlain (sym e) refl
pythons_plain minor small w (inr (inr (inr h))) = plain_map python_name 0 minor (omega arith) (λ k few. small_decimal k few) w h

pub words_plain : (t : TargetValue) → is_target t ≡ true → ArePlain (target_words t)
unfolding target_words
words_plain t known =
    let minor = t.python.minor in
    let small = (python_bounds t.python (cpython_in t known)).1 in
    let platforms = platforms_of t.platform in
    let last = python_words minor ++ platforms in
    let rest = older_cpythons minor ++ last in
    plain_append (abi_words t.python) (any_platform ∷ [] ++ rest) (abis_plain t.python small)
    (plain_append (any_platform ∷ []) rest (plain_one any_platform refl)
    (plain_append (older_cpythons minor) last (plain_map cpython_name 2 minor (omega arith) (λ k few. small_decimal k few))
    (plain_append (python_words minor) platforms (pythons_plain minor small) (platforms_plain t.platform (platform_there t known)))))

-- ---- ASCII

plain_ascii : (b : ℕ) → is_plain_byte b ≡ true → is_ascii b ≡ true
plain_ascii b h = grind (arith, nat_tests)

word_ascii : (w : List ℕ) → IsPlain w → IsAsciiText w
word_ascii [] h = refl
word_ascii (b ∷ w) h =
    let p = and_parts (is_plain_byte b) (list_all is_plain_byte w) h in
    let e = plain_ascii b p.0 in rw e (word_ascii w p.1)

concat_ascii : (words : List (List ℕ)) → ArePlain words → IsAsciiText (concat words)
concat_ascii [] h = refl
concat_ascii (w ∷ words) h =
    let a = word_ascii w (h w (inl refl)) in
    let b = concat_ascii words (λ x p. h x (inr p)) in
    list_all-append is_ascii w (concat words) ∙ rw (a, b) refl

-- ---- the parts in the text

within_left : (text : List ℕ) (a b : List Span) → AreWithin text (a ++ b) → AreWithin text a
within_left text a b h = subst (AreWithin text) (take-append_seam a b) (All-take (IsWithin text) (length a) (a ++ b) h)

within_right : (text : List ℕ) (a b : List Span) → AreWithin text (a ++ b) → AreWithin text b
within_right text a b h = subst (AreWithin text) (drop-append_seam a b) (All-drop (IsWithin text) (length a) (a ++ b) h)

pub tag_parts : (text : List ℕ) (t : TargetValue) (spans : List Span) (parts : TargetSpans) → is_target t ≡ true
    → AreWords text spans → words_at text spans ≡ target_words t → AreParts spans t.python.minor parts → AreTagParts text parts
tag_parts text t spans parts known stand e made =
    let ascii : IsAsciiText text = subst IsAsciiText (sym (stand.1 ∙ ap concat e)) (concat_ascii (target_words t) (words_plain t known)) in
    let all = subst (AreWithin text) made.whole stand.0 in
    let a = within_right text parts.abis.now _ all in
    let b = within_right text parts.any.now _ a in
    let c = within_right text parts.older.now _ b in
    let n = made.pythons in record {
      ascii = ascii;
      abis = within_left text parts.abis.now _ all;
      any = within_left text parts.any.now _ a;
      older = within_left text parts.older.now _ b;
      pythons = within_left text parts.pythons.now _ c;
      platforms = within_right text parts.pythons.now _ c;
      three = made.abis;
      some = omega (arith, n);
    }

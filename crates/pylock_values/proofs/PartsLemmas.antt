-- What the normal form of a version begins with, and a normal form with a shorter release.
use Rattle.std.proofs.Common.{◌≡◌, ◌≤◌, ◌<◌, ◌+◌, ◌/◌, ◌++◌, [], ◌∷◌, ℕ, zero, suc, true, false, List, length, drop, take, refl, sym, ap, ◌∙◌, append_assoc, arith, lit≤}
use Rattle.std.specs.Int.Digits.{digits_of}
use Rattle.std.specs.List.{flat_map}
use Rattle.std.specs.Str.{bytes_eq}
use Rattle.std.proofs.Math.Seq.{drop-append_seam, take-append_seam}
use Rattle.std.proofs.lemmas.Int.Digits.{length-digits_of_step}
use Rattle.std.proofs.lemmas.List.{append-nil, length-append, length-map}
use Rattle.std.proofs.lemmas.Slice.Eq.{bytes_eq-Decides}
use Rattle.pyver_core.specs.Version.Hashing.{prepend_unless_trailing, without_trailing_zeros}
use Rattle.pyver_core.specs.Version.Normal.{decimal_text, dev_text, dotted_segment, epoch_text, local_text, normal_text, post_text, pre_text, release_text, segment_text}
use Rattle.pyver_core.specs.Version.Order.{IsSame}
use Rattle.pyver_core.specs.Version.OrderKey.{order_key}
use Rattle.pyver_core.specs.Version.Parts.{Parts, base_release, public_part, release_alone}
use Rattle.pyver_core.specs.declared.version.part.LocalPart.{LocalPart}
use Rattle.pyver_core.proofs.Lemmas.Version.OrderKey.{keys_equal}
use Rattle.pylock_values.specs.Kind.{kind_of}
use Rattle.pylock_values.specs.Parts.{base_length, base_with, numbers_of, public_length, short_release, without_zeros}

-- ---- the base release

-- what stands behind the release in the normal form
abbrev behind : Parts → List ℕ
behind v = pre_text v.pre ++ (post_text v.post ++ (dev_text v.dev ++ local_text v.local))

base_text : (v : Parts) → normal_text (base_release v) ≡ epoch_text v.epoch ++ release_text v.release
base_text v = ap (λ (t : List ℕ). epoch_text v.epoch ++ t) (append-nil (release_text v.release))

whole_text : (v : Parts) → normal_text v ≡ normal_text (base_release v) ++ behind v
whole_text v =
    sym (append_assoc (epoch_text v.epoch) (release_text v.release) (behind v))
    ∙ ap (λ (t : List ℕ). t ++ behind v) (sym (base_text v))

pub base_begins : (v : Parts) → take (base_length v) (normal_text v) ≡ normal_text (base_release v)
base_begins v = ap (take (base_length v)) (whole_text v) ∙ take-append_seam (normal_text (base_release v)) (behind v)

pub short_text : (v : Parts) → normal_text (base_with v.epoch (short_release v.release)) ++ drop (base_length v) (normal_text v) ≡ normal_text (without_zeros v)
short_text v =
    ap (λ (t : List ℕ). normal_text (base_with v.epoch (short_release v.release)) ++ t)
    (ap (drop (base_length v)) (whole_text v) ∙ drop-append_seam (normal_text (base_release v)) (behind v))
    ∙ sym (whole_text (without_zeros v))

-- ---- the public part

-- all but the local part
abbrev front : Parts → List ℕ
front v = epoch_text v.epoch ++ (release_text v.release ++ (pre_text v.pre ++ (post_text v.post ++ dev_text v.dev)))

-- four texts before another
behind_four : (a b c d e t : List ℕ) → (a ++ (b ++ (c ++ (d ++ e)))) ++ t ≡ a ++ (b ++ (c ++ (d ++ (e ++ t))))
behind_four a b c d e t =
    append_assoc a (b ++ (c ++ (d ++ e))) t
    ∙ ap (λ (x : List ℕ). a ++ x) (append_assoc b (c ++ (d ++ e)) t
    ∙ ap (λ (x : List ℕ). b ++ x) (append_assoc c (d ++ e) t
    ∙ ap (λ (x : List ℕ). c ++ x) (append_assoc d e t)))

public_text : (v : Parts) → normal_text (public_part v) ≡ front v
public_text v =
    sym (behind_four (epoch_text v.epoch) (release_text v.release) (pre_text v.pre) (post_text v.post) (dev_text v.dev) [])
    ∙ append-nil (front v)

local_follows : (v : Parts) → normal_text v ≡ normal_text (public_part v) ++ local_text v.local
local_follows v =
    sym (behind_four (epoch_text v.epoch) (release_text v.release) (pre_text v.pre) (post_text v.post) (dev_text v.dev) (local_text v.local))
    ∙ ap (λ (t : List ℕ). t ++ local_text v.local) (sym (public_text v))

pub public_begins : (v : Parts) → take (public_length v) (normal_text v) ≡ normal_text (public_part v)
public_begins v = ap (take (public_length v)) (local_follows v) ∙ take-append_seam (normal_text (public_part v)) (local_text v.local)

-- ---- lengths

pub local_behind : (v : Parts) → length (normal_text v) ≡ public_length v + length (local_text v.local)
local_behind v = ap length (local_follows v) ∙ length-append (normal_text (public_part v)) (local_text v.local)

pub public_parts : (v : Parts) → public_length v ≡ base_length v + (length (pre_text v.pre) + (length (post_text v.post) + length (dev_text v.dev)))
public_parts v =
    let base = normal_text (base_release v) in
    let pre = pre_text v.pre in
    let post = post_text v.post in
    let dev = dev_text v.dev in
    ap length (whole_text (public_part v))
    ∙ length-append base (pre ++ (post ++ (dev ++ [])))
    ∙ ap (λ (n : ℕ). length base + n) (length-append pre (post ++ (dev ++ []))
    ∙ ap (λ (n : ℕ). length pre + n) (length-append post (dev ++ [])
    ∙ ap (λ (n : ℕ). length post + n) (ap length (append-nil dev))))

pub local_segments : (segments : List LocalPart) → length (local_text segments) ≡ length (flat_map dotted_segment segments)
local_segments [] = refl
local_segments (first ∷ rest) = refl

pub next_segment : (first : LocalPart) (rest : List LocalPart)
    → length (flat_map dotted_segment (first ∷ rest)) ≡ length (segment_text first) + (1 + length (flat_map dotted_segment rest))
next_segment first rest = omega (arith, length-append (dotted_segment first) (flat_map dotted_segment rest))

pub ruleset lengths_of_segments = (local_segments, next_segment)

decimal_digits : (n : ℕ) → 0 < n → length (decimal_text n) ≡ length (digits_of 10 n)
decimal_digits zero some = absurd (omega arith)
decimal_digits (suc n) some = length-map (digits_of 10 (suc n)) (λ (d : ℕ). 48 + d)

pub digit_behind : (n : ℕ) → 10 ≤ n → length (decimal_text n) ≡ length (decimal_text (n / 10)) + 1
digit_behind n big =
    decimal_digits n (omega arith) ∙ length-digits_of_step 10 n (lit≤ tt) (omega arith)
    ∙ ap (λ (k : ℕ). k + 1) (sym (decimal_digits (n / 10) (omega arith)))

pub digit_alone : (n : ℕ) → n < 10 → length (decimal_text n) ≡ 1
digit_alone zero small = refl
digit_alone (suc n) small =
    let none : suc n / 10 ≡ 0 = omega arith in
    decimal_digits (suc n) (omega arith) ∙ length-digits_of_step 10 (suc n) (lit≤ tt) (omega arith)
    ∙ ap (λ (k : ℕ). length (digits_of 10 k) + 1) none

pub ruleset lengths_of_digits = (digit_behind, digit_alone)

-- ---- a release alone

pub plain_numbers : (v : Parts) (text : List ℕ) → v ≡ release_alone v.release → normal_text v ≡ text
    → numbers_of v ≡ record {
      base = length text;
      public_end = length text;
      epoch_low = 0;
      epoch_high = 0;
      pre_low = 0;
      pre_high = 0;
      post_low = 0;
      post_high = 0;
      dev_low = 0;
      dev_high = 0;
      pre = 0;
      has_post = false;
      has_dev = false;
    }
plain_numbers v text alone normal =
    let length_is : length (normal_text (release_alone v.release)) ≡ length text = ap length (ap normal_text (sym alone) ∙ normal) in
    ap numbers_of alone ∙ rw length_is refl

pub plain_kind : (v : Parts) (text : List ℕ) → v ≡ release_alone v.release → normal_text v ≡ text
    → kind_of text v ≡ record { is_prerelease = false; is_postrelease = false; is_devrelease = false; is_normal = true }
plain_kind v text alone normal =
    let whole : bytes_eq (normal_text (release_alone v.release)) text ≡ true =
    (bytes_eq-Decides (normal_text (release_alone v.release)) text).1 (ap normal_text (sym alone) ∙ normal) in
    ap (kind_of text) alone ∙ rw whole refl

-- ---- zeros at the end

again : (x : ℕ) (ys : List ℕ) → without_trailing_zeros ys ≡ ys → without_trailing_zeros (prepend_unless_trailing x ys) ≡ prepend_unless_trailing x ys
unfolding without_trailing_zeros
again zero [] e = refl
again zero (y ∷ ys) e = ap (prepend_unless_trailing zero) e
again (suc n) ys e = ap (prepend_unless_trailing (suc n)) e

none_left : (xs : List ℕ) → without_trailing_zeros (without_trailing_zeros xs) ≡ without_trailing_zeros xs
unfolding without_trailing_zeros
none_left [] = refl
none_left (x ∷ xs) = again x (without_trailing_zeros xs) (none_left xs)

short_alike : (release : List ℕ) → without_trailing_zeros (short_release release) ≡ without_trailing_zeros release
unfolding without_trailing_zeros
short_alike [] = refl
short_alike (first ∷ rest) = ap (prepend_unless_trailing first) (none_left rest)

pub same_without : (v : Parts) → IsSame (without_zeros v) v
same_without v =
    let keys : order_key (without_zeros v) ≡ order_key v = rw (short_alike v.release) refl in
    (keys_equal (without_zeros v) v).1 keys

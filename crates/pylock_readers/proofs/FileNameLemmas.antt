-- The part of a list after the last element that passes a test, by its place, and before the first.
use Rattle.std.proofs.lemmas.Str.{IsCharBoundary-after_ascii, is_utf8-from_IsUtf8, IsUtf8-from_is_utf8}
use Rattle.std.proofs.Common.{◌≡◌, ◌∙◌, ◌==◌, ℕ, ◌+◌, ◌-◌, ◌<◌, ◌≤◌, Bool, true, false, not, List, [], ◌∷◌, length, get_or, take, drop, suc, cond, arith, refl, ap}
use Rattle.std.proofs.lemmas.Bool.{cond-false, or_parts}
use Rattle.percent_encoding.specs.Percent.{is_escape, percent_decode}
use Rattle.std.specs.List.{after_last, before_first, list_any, position_or_len, suffix_len}
use Rattle.std.proofs.lemmas.List.Sums.{suffix_len_is}

pub after_last_at : (p : ℕ → Bool) (xs : List ℕ) (i : ℕ) → i < length xs → p (get_or xs i 0) ≡ true
    → ((k : ℕ) → i + 1 ≤ k → k < length xs → p (get_or xs k 0) ≡ false) → after_last p xs ≡ drop (i + 1) xs
after_last_at p xs i within here after =
    let back : i + 1 - 1 ≡ i = omega arith in
    let len = suffix_len_is (λ x. not (p x)) xs (i + 1) 0 (omega arith) (λ k low high. ap not (after k low high)) (λ _. rw back (ap not here)) in
    let start : length xs - suffix_len (λ x. not (p x)) xs ≡ i + 1 = omega (arith, len) in
    ap (λ n. drop n xs) start

pub after_last_none : (p : ℕ → Bool) (xs : List ℕ) → ((k : ℕ) → k < length xs → p (get_or xs k 0) ≡ false) → after_last p xs ≡ xs
after_last_none p xs none =
    let len = suffix_len_is (λ x. not (p x)) xs 0 0 (omega arith) (λ k low high. ap not (none k high)) (λ some. absurd (omega arith)) in
    let start : length xs - suffix_len (λ x. not (p x)) xs ≡ 0 = omega (arith, len) in
    ap (λ n. drop n xs) start

-- what stands after the last of some bytes, all ASCII
pub ruleset after_ascii = (IsCharBoundary-after_ascii, after_last_at, after_last_none)

pub before_none : (p : ℕ → Bool) (xs : List ℕ) → list_any p xs ≡ false → before_first p xs ≡ xs
before_none p [] none = refl
before_none p (x ∷ xs) none =
    let parts = or_parts (p x) (list_any p xs) none in
    let len = position_or_len p xs in
    let more : 1 + len ≡ suc len = omega arith in
    ap (λ b. take (cond (not b) (1 + len) 0) (x ∷ xs)) parts.0
    ∙ ap (λ n. take n (x ∷ xs)) more
    ∙ ap (λ rest. x ∷ rest) (before_none p xs parts.1)

-- ---- percent-decoding

-- bytes with no `%` have no escape
pub no_escape : (text : List ℕ) → list_any (λ b. b == 37) text ≡ false → percent_decode text ≡ text
unfolding percent_decode
no_escape [] none = refl
no_escape (b ∷ []) none = refl
no_escape (b ∷ c ∷ []) none = refl
no_escape (b ∷ high ∷ low ∷ rest) none =
    let parts = or_parts (b == 37) (list_any (λ b. b == 37) (high ∷ low ∷ rest)) none in
    let plain : is_escape b high low ≡ false = rw parts.0 refl in
    cond-false _ _ _ plain ∙ ap (λ bs. b ∷ bs) (no_escape (high ∷ low ∷ rest) parts.1)

-- what is decoded, and whether it is text
pub ruleset decoding = (no_escape, is_utf8-from_IsUtf8, IsUtf8-from_is_utf8)

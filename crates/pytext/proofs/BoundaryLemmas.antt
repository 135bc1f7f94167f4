-- Where a text may be cut: round white space, and beside a run of bytes of a class.
use Rattle.std.proofs.Common.{◌≡◌, ℕ, zero, suc, ◌+◌, ◌-◌, ◌<◌, ◌≤◌, Bool, true, false, List, length, drop, get_or, reverse, Option, Some, None, refl, subst, arith, inl, inr}
use Rattle.std.specs.Prelude.{MatchOption, option_map, if◌then◌else◌, nat_eq}
use Rattle.std.specs.Cmp.{unsigned_Decides}
use Rattle.std.specs.List.{prefix_len, starts_with, suffix_len}
use Rattle.std.specs.Str.{IsCharBoundary, IsUtf8}
use Rattle.std.specs.Str.Pattern.{FindsTextPrefix, StripsPrefix}
use denote.Ref.{Bor}
use Rattle.std.proofs.lemmas.Bool.{cases_Bool, cases_lt}
use Rattle.std.proofs.lemmas.Bool.Decides.{nat_tests}
use Rattle.std.proofs.lemmas.List.{get_or-reverse}
use Rattle.std.proofs.lemmas.List.Sums.{prefix_len-le-length, prefix_len_passes, prefix_len_stops, suffix_len-le-length}
use Rattle.std.proofs.lemmas.Slice.Eq.{starts_is}
use Rattle.std.proofs.lemmas.Str.{IsCharBoundary-after_ascii, IsCharBoundary-before_ascii, IsCharBoundary-end, IsCharBoundary-start}
use Rattle.pytext.specs.Bytes.{is_white}

pub white-ascii : (b : ℕ) → is_white b ≡ true → b < 128
white-ascii b white = grind (arith, nat_tests)

-- ---- after a run of a class, and before what follows it

behind : (p : ℕ → Bool) (ascii : (b : ℕ) → p b ≡ true → b < 128) (bs : List ℕ) (n : ℕ) → n ≤ prefix_len p bs → IsUtf8 bs → IsCharBoundary bs n
behind p ascii bs zero le utf8 = IsCharBoundary-start bs utf8
behind p ascii bs (suc n) le utf8 =
    let within = prefix_len-le-length p bs in
    let passes = prefix_len_passes p bs n 0 (omega arith) in
    let e : n + 1 ≡ suc n = omega arith in
    subst (IsCharBoundary bs) e (IsCharBoundary-after_ascii bs n utf8 (omega arith) (ascii (get_or bs n 0) passes))

-- where all bytes of the class are ASCII
pub boundary_behind : (p : ℕ → Bool) → ((b : ℕ) → p b ≡ true → b < 128) → (bs : List ℕ) → IsUtf8 bs → IsCharBoundary bs (prefix_len p bs)
boundary_behind p ascii bs utf8 = behind p ascii bs (prefix_len p bs) (omega arith) utf8

-- where all other bytes are
pub boundary_before : (p : ℕ → Bool) → ((b : ℕ) → p b ≡ false → b < 128) → (bs : List ℕ) → IsCharBoundary bs (prefix_len p bs)
boundary_before p ascii bs =
    let n = prefix_len p bs in
    let within : n ≤ length bs = prefix_len-le-length p bs in
    elim (cases_lt n (length bs)) [
      | inl inside ↦ IsCharBoundary-before_ascii bs n inside (ascii (get_or bs n 0) (prefix_len_stops p bs 0 inside))
      | inr past ↦
          let e : length bs ≡ n = omega arith in
          subst (IsCharBoundary bs) e (IsCharBoundary-end bs)
    ]

-- ---- white space

pub boundary_behind_white : (bs : List ℕ) → IsUtf8 bs → IsCharBoundary bs (prefix_len is_white bs)
boundary_behind_white bs utf8 = boundary_behind is_white white-ascii bs utf8

pub boundary_before_white : (bs : List ℕ) → IsUtf8 bs → IsCharBoundary bs (length bs - suffix_len is_white bs)
boundary_before_white bs utf8 =
    let n = suffix_len is_white bs in
    let le : n ≤ length bs = suffix_len-le-length is_white bs in (
      omega arith,
      λ inside high.
          let last : n - 1 < prefix_len is_white (reverse bs) = omega arith in
          let white = prefix_len_passes is_white (reverse bs) (n - 1) 0 last in
          let at = get_or-reverse bs (n - 1) 0 (omega arith) in
          let position : length bs - 1 - (n - 1) ≡ length bs - n = omega arith in
          let same : get_or (reverse bs) (n - 1) 0 ≡ get_or bs (length bs - n) 0 = cc in
          let low = white-ascii (get_or (reverse bs) (n - 1) 0) white in
          absurd (omega arith),
    )

-- white space at the end is no longer than the text
pub white_within : (bs : List ℕ) → suffix_len is_white bs ≤ length bs
white_within bs = suffix_len-le-length is_white bs

-- before the white space at the end
pub ruleset before_white = (boundary_before_white, white_within)

-- ---- what `strip_prefix` says at a text

pub strip_prefix_is : (p s : List ℕ) (r : Option (Bor (List ℕ))) → MatchOption r (FindsTextPrefix p s None) (λ x. StripsPrefix (FindsTextPrefix p) s x.now)
    → option_map (λ x. x.now) r ≡ (if starts_with nat_eq s p then Some (drop (length p) s) else None)
strip_prefix_is p s None h = elim (cases_Bool (starts_with nat_eq s p)) [
  | inl begins ↦ absurd (h (drop (length p) s) ((starts_is unsigned_Decides s p (starts_with nat_eq s p) refl).0 begins))
  | inr other ↦ rw other refl
]
strip_prefix_is p s (Some x) h =
    let begins : starts_with nat_eq s p ≡ true = (starts_is unsigned_Decides s p (starts_with nat_eq s p) refl).1 (drop h.0 s) h.1.1 in
    rw (begins, h.2, h.1.0) refl

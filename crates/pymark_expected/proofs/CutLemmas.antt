-- Cuts of the text of a requirement.
use Rattle.std.proofs.Common.{◌≡◌, ℕ, ◌+◌, ◌-◌, ◌<◌, ◌≤◌, zero, suc, true, List, length, drop, get_or, arith, ap, sym, subst, ◌∙◌, inl, inr}
use Rattle.std.specs.Prelude.{◌==◌}
use Rattle.std.specs.Char.{is_ascii_alphanumeric}
use Rattle.std.specs.List.{after_first, position_or_len, prefix_len}
use Rattle.std.specs.Str.{IsCharBoundary, IsUtf8}
use Rattle.std.proofs.lemmas.Bool.{cases_Bool}
use Rattle.std.proofs.lemmas.Bool.Decides.{nat_tests}
use Rattle.std.proofs.lemmas.List.Sums.{prefix_len-le-length, prefix_len_passes}
use Rattle.std.proofs.lemmas.Str.{IsCharBoundary-after_ascii, IsCharBoundary-start}
use Rattle.pytext.specs.Bytes.{is_name_byte, is_white, starts}
use Rattle.pytext.specs.White.{after_white}
use Rattle.pymark_core.specs.Requirement.Reading.{url_len}
use Rattle.pymark_expected.proofs.StretchLemmas.{end_of_drop, end_whole}
use Rattle.pymark_expected.specs.Requirement.{EndsAt, after_name, behind_name, behind_url, marker, name_len, source, url}
use Rattle.pymark_expected.specs.Stretch.{EndsWith}
use Rattle.pymark_expected.specs.declared.fault.Fault.{Fault}

name-ascii : (b : ℕ) → is_name_byte b ≡ true → b < 128
name-ascii b name = grind (arith, nat_tests)

in_run : (bs : List ℕ) (n : ℕ) → n ≤ prefix_len is_name_byte bs → IsUtf8 bs → IsCharBoundary bs n
in_run bs zero le utf8 = IsCharBoundary-start bs utf8
in_run bs (suc n) le utf8 =
    let within = prefix_len-le-length is_name_byte bs in
    let passes = prefix_len_passes is_name_byte bs n 0 (omega arith) in
    let e : n + 1 ≡ suc n = omega arith in
    subst (IsCharBoundary bs) e (IsCharBoundary-after_ascii bs n utf8 (omega arith) (name-ascii (get_or bs n 0) passes))

pub name_boundary : (bs : List ℕ) → IsUtf8 bs → IsCharBoundary bs (name_len bs)
name_boundary bs utf8 = in_run bs (name_len bs) (omega arith) utf8

-- ---- what is cut off stands at the end

module _ (text : List ℕ) where
  of_white : (end : List ℕ) → EndsWith text end → EndsWith text (after_white end)
  of_white end is = end_of_drop text end (prefix_len is_white end) is

  of_first : (byte : ℕ) (end : List ℕ) → EndsWith text end → EndsWith text (after_first (λ b. b == byte) end)
  of_first byte end is = end_of_drop text end (position_or_len (λ b. b == byte) end + 1) is

  of_name : (end : List ℕ) → EndsWith text end → EndsWith text (after_name end)
  of_name end is = elim (cases_Bool (starts is_ascii_alphanumeric end)) [
    | inl begins ↦ rw begins (end_of_drop text end (name_len end) is)
    | inr other ↦ rw other is
  ]

  of_url : (end : List ℕ) → EndsWith text end → EndsWith text (behind_url end)
  of_url end is = of_white (drop (url_len end) end) (end_of_drop text end (url_len end) is)

pub behind_name_ends : (text : List ℕ) → EndsWith text (behind_name text)
behind_name_ends text = of_white text (after_name (after_white text)) (of_name text (after_white text) (of_white text text (end_whole text)))

source_ends : (text : List ℕ) → EndsWith text (source text)
source_ends text = elim (cases_Bool (starts (λ b. b == 91) (behind_name text))) [
  | inl begins ↦ rw begins (of_white text (after_first (λ b. b == 93) (drop 1 (behind_name text)))
      (of_first text 93 (drop 1 (behind_name text)) (end_of_drop text (behind_name text) 1 (behind_name_ends text))))
  | inr other ↦ rw other (behind_name_ends text)
]

pub url_ends : (text : List ℕ) → EndsWith text (url (source text))
url_ends text = elim (cases_Bool (starts (λ b. b == 64) (source text))) [
  | inl begins ↦ rw begins (of_white text (drop 1 (source text)) (end_of_drop text (source text) 1 (source_ends text)))
  | inr other ↦ rw other (of_white text (source text) (source_ends text))
]

pub behind_url_ends : (text : List ℕ) → EndsWith text (behind_url (url (source text)))
behind_url_ends text = of_url text (url (source text)) (url_ends text)

pub marker_ends : (text : List ℕ) → EndsWith text (marker (source text))
marker_ends text = elim (cases_Bool (starts (λ b. b == 64) (source text))) [
  | inl begins ↦ rw begins
      (let rest = after_white (drop 1 (source text)) in
      of_first text 59 (behind_url rest) (of_url text rest (of_white text (drop 1 (source text)) (end_of_drop text (source text) 1 (source_ends text)))))
  | inr other ↦ rw other (of_first text 59 (source text) (source_ends text))
]

-- ---- the place of a fault

pub at_end : (text rest at : List ℕ) (fault : Fault) → EndsWith text rest → at ≡ rest → (EndsWith text at → fault.end ≡ length text - length at) → EndsAt text rest fault
at_end text rest at fault ends is told =
    told (subst (EndsWith text) (sym is) ends) ∙ ap (λ (e : List ℕ). length text - length e) is

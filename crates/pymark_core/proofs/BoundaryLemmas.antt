-- Where a text may be cut: beside words, names and URLs, and beside one byte.
use Rattle.std.proofs.Common.{◌≡◌, ℕ, ◌<◌, true, List, length, get_or, arith}
use Rattle.std.specs.List.{prefix_len}
use Rattle.std.specs.Prelude.{not}
use Rattle.std.specs.Str.{IsCharBoundary, IsUtf8}
use Rattle.std.proofs.lemmas.Bool.{not-false}
use Rattle.std.proofs.lemmas.Bool.Decides.{nat_tests}
use Rattle.std.proofs.lemmas.Str.{IsCharBoundary-after_ascii, IsCharBoundary-before_ascii}
use Rattle.pytext.proofs.BoundaryLemmas.{boundary_before, boundary_behind, white-ascii}
use Rattle.pytext.specs.Bytes.{is_name_byte, is_white, is_word_byte}
use Rattle.pymark_core.specs.Requirement.Reading.{url_len}

word-ascii : (b : ℕ) → is_word_byte b ≡ true → b < 128
word-ascii b letter = grind (arith, nat_tests)

name-ascii : (b : ℕ) → is_name_byte b ≡ true → b < 128
name-ascii b letter = grind (arith, nat_tests)

pub boundary_after_word : (bs : List ℕ) → IsUtf8 bs → IsCharBoundary bs (prefix_len is_word_byte bs)
boundary_after_word bs utf8 = boundary_behind is_word_byte word-ascii bs utf8

pub boundary_after_name : (bs : List ℕ) → IsUtf8 bs → IsCharBoundary bs (prefix_len is_name_byte bs)
boundary_after_name bs utf8 = boundary_behind is_name_byte name-ascii bs utf8

pub boundary_after_url : (bs : List ℕ) → IsCharBoundary bs (url_len bs)
boundary_after_url bs = boundary_before (λ b. not (is_white b)) (λ b e. white-ascii b (not-false (is_white b) e)) bs

-- behind a first byte below 128
pub boundary_after_first : (bs : List ℕ) → IsUtf8 bs → 0 < length bs → get_or bs 0 0 < 128 → IsCharBoundary bs 1
boundary_after_first bs utf8 some low = IsCharBoundary-after_ascii bs 0 utf8 some low

-- on either side of a byte below 128
pub ruleset around_ascii = (IsCharBoundary-before_ascii, IsCharBoundary-after_ascii)

-- Keys before `=`.
use Rattle.std.proofs.Common.{◌≡◌, ℕ, ◌<◌, true, false, List, [], length, take, drop, Some, String, Global, ◌∙◌, arith}
use Rattle.std.proofs.lemmas.Bool.Decides.{nat_tests}
use Rattle.std.proofs.lemmas.List.Sums.{prefix_len_passes}
use Rattle.std.specs.List.{prefix_len}
use Rattle.toml_parser.specs.Lexical.{first, is_bare, skip_ws}
use Rattle.toml_parser.specs.Reading.{path_view}
use Rattle.toml_parser.specs.Strings.{Key, key, simple_key, starts_string}
use Rattle.toml_parser.proofs.StringsLemmas.{key_after_turn}
use Rattle.toml.specs.Parse.{key_equals}
use Rattle.toml.proofs.Turns.{path_view-none}

pub key_equals-read : (s rest : List ℕ) (k : Key) → key s ≡ Some (k, rest) → first rest ≡ 61 → key_equals s ≡ Some (k, skip_ws (drop 1 rest))
unfolding key_equals
key_equals-read s rest k read equals = rw (read, equals)

-- a key with no part before the last
pub key_equals-single : (s rest : List ℕ) (path : List (String Global)) (last : List ℕ) → key s ≡ Some ((path_view path, last), rest) → length path ≡ 0 → first rest ≡ 61
    → key_equals s ≡ Some (([], last), skip_ws (drop 1 rest))
key_equals-single s rest path last read none equals =
    key_equals-read s rest ([], last) (rw (path_view-none path (omega arith)) at read) equals

simple_key-bare : (s : List ℕ) → 0 < prefix_len is_bare s → simple_key s ≡ Some (take (prefix_len is_bare s) s, drop (prefix_len is_bare s) s)
unfolding simple_key
simple_key-bare s some =
    let bare : is_bare (first s) ≡ true = prefix_len_passes is_bare s 0 0 some in
    let other : starts_string s ≡ false = grind (arith, nat_tests) in
    rw (other, bare)

key-bare : (s rest : List ℕ) → 0 < prefix_len is_bare s → rest ≡ skip_ws (drop (prefix_len is_bare s) s) → first rest ≡ 61
    → key s ≡ Some (([], take (prefix_len is_bare s) s), rest)
key-bare s rest some after equals =
    let at_equals : first (skip_ws (drop (prefix_len is_bare s) s)) ≡ 61 = rw (← after) equals in
    key_after_turn 80 [] s (omega arith) ∙ rw (simple_key-bare s some, at_equals, after)

-- a bare key of one part
pub key_equals-bare : (s rest : List ℕ) (n : ℕ) → n ≡ prefix_len is_bare s → 0 < n → rest ≡ skip_ws (drop n s) → first rest ≡ 61
    → key_equals s ≡ Some (([], take n s), skip_ws (drop 1 rest))
key_equals-bare s rest n is some after equals =
    rw is (key_equals-read s rest ([], take (prefix_len is_bare s) s) (key-bare s rest (omega arith) (rw is at after) equals) equals)

-- Texts, of bytes and of strings. A text is the list of the bytes of its UTF-8.
use Rattle.std.specs.Prelude.{ℕ, Bool, List, map, Option, Some, None, if◌then◌else◌, string_bytes}
use Rattle.std.specs.Cmp.Lexicographic.{slice_cmp}
use Rattle.std.specs.Global.{Global}
use Rattle.std.specs.List.{list_any}
use Rattle.std.specs.Ordering.{is_eq, nat_cmp}
use Rattle.std.specs.Str.{is_utf8}
use Rattle.std.specs.declared.string.String.{String}

-- the bytes as text, where they are UTF-8
abbrev pub utf8_text : List ℕ → Option (List ℕ)
utf8_text bytes = if is_utf8 bytes then Some bytes else None

-- the texts of a pair of strings
abbrev pub text_pair : {A B : Type 0} → String A × String B → List ℕ × List ℕ
text_pair p = (string_bytes p.0, string_bytes p.1)

-- the texts of pairs of strings
abbrev pub text_pairs : {A B : Type 0} → List (String A × String B) → List (List ℕ × List ℕ)
text_pairs ps = map text_pair ps

-- whether a text is that of a string, as the order of strings tells it
abbrev pub is_text : List ℕ → String Global → Bool
is_text text key = is_eq (slice_cmp nat_cmp text (string_bytes key))

-- whether a text is that of one of the keys of a set
abbrev pub has_text : List (String Global) → List ℕ → Bool
has_text keys text = list_any (is_text text) keys

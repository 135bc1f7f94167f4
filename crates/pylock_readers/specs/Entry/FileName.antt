-- The file name of an sdist or a wheel (PEP 751, `packages.sdist.name`): the key `name`, which may
-- be left out where the path or the URL ends in it. A text is the list of the bytes of its UTF-8.
use Rattle.std.specs.Prelude.{ℕ, Bool, ◌||◌, ◌==◌, List, [], ◌∷◌, Option, Some, None}
use Rattle.std.specs.Prelude.{option_and_then, if◌then◌else◌}
use Rattle.std.specs.List.{before_first, after_last}
use Rattle.std.specs.Str.{is_utf8}
use Rattle.pytext.specs.Options.{either}
use Rattle.percent_encoding.specs.Percent.{percent_decode}

-- whether the byte is `/`
abbrev pub is_slash : ℕ → Bool
is_slash b = b == 47

-- whether the byte is `/` or `\`
abbrev pub ends_segment : ℕ → Bool
ends_segment b = b == 47 || b == 92

-- the text, unless it is empty: an empty file name counts as absent
abbrev pub text_unless_empty : List ℕ → Option (List ℕ)
text_unless_empty [] = None
text_unless_empty (b ∷ bs) = Some (b ∷ bs)

-- what stands after the last separator of a path
abbrev pub last_of_path : List ℕ → List ℕ
last_of_path path = after_last ends_segment path

-- what stands before the fragment and the query of a URL, after its last `/` (RFC 3986, sections
-- 3.3 to 3.5)
abbrev pub last_of_url : List ℕ → List ℕ
last_of_url url =
    after_last is_slash (before_first (λ b. b == 63) (before_first (λ b. b == 35) url))

-- the text with its escapes decoded (RFC 3986, section 2.1), or the text itself where the decoded
-- bytes are not UTF-8
abbrev pub decode_escapes : List ℕ → List ℕ
decode_escapes text = if is_utf8 (percent_decode text) then percent_decode text else text

-- the file name that the key `name` gives, else the path, else the URL
abbrev pub file_name_of : Option (List ℕ) → Option (List ℕ) → Option (List ℕ) → Option (List ℕ)
file_name_of name path url =
    either (option_and_then text_unless_empty name)
    (either (option_and_then (λ p. text_unless_empty (last_of_path p)) path)
    (option_and_then (λ u. text_unless_empty (decode_escapes (last_of_url u))) url))

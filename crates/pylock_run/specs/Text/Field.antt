-- The fields of a printed line, which ends in LF.
use Rattle.std.specs.Prelude.{ℕ, ◌==◌, ◌++◌, List, [], ◌∷◌, if◌then◌else◌, Option, Some, None}
use Rattle.std.specs.Prelude.{codes}
use Rattle.std.specs.List.{flat_map}
use Rattle.std.specs.Str.{bytes_eq}

-- how a byte of a text stands in a field: TAB, LF, CR and the backslash are written with a
-- backslash
abbrev pub escape_byte : ℕ → List ℕ
escape_byte b =
    if b == 9 then codes "\\t"
    else if b == 10 then codes "\\n"
    else if b == 13 then codes "\\r"
    else if b == 92 then codes "\\\\"
    else b ∷ []

-- a text with its escapes
abbrev pub escaped_text : List ℕ → List ℕ
escaped_text text = flat_map escape_byte text

-- a field: an absent text is `-`, and the text `-` is written `\-`
abbrev pub field : Option (List ℕ) → List ℕ
field None = codes "-"
field (Some text) = if bytes_eq text (codes "-") then codes "\\-" else escaped_text text

-- fields, each after a TAB
abbrev pub fields_text : List (List ℕ) → List ℕ
fields_text fields = flat_map (λ f. 9 ∷ f) fields

-- a line of fields, joined by TABs
abbrev pub line_of : List ℕ → List (List ℕ) → List ℕ
line_of first rest = first ++ fields_text rest ++ codes "\n"

-- Texts and keys as a code has them. A text is the list of the bytes of its UTF-8.
use Rattle.std.specs.Prelude.{ℕ, Bool, false, ◌+◌, ◌/◌, ◌%◌, ◌||◌, ◌==◌, ◌++◌, nat_lt, codes}
use Rattle.std.specs.Prelude.{List, [], ◌∷◌, if◌then◌else◌}
use Rattle.std.specs.List.{flat_map, list_all}
use Rattle.toml_parser.specs.Lexical.{is_bare}

-- a hexadecimal digit
abbrev pub hex_digit : ℕ → ℕ
hex_digit n = if nat_lt n 10 then n + 48 else n + 55

-- a quotation mark or a backslash
abbrev pub is_quoting : ℕ → Bool
is_quoting b = b == 34 || b == 92

-- a control character of ASCII
abbrev pub is_control : ℕ → Bool
is_control b = nat_lt b 32 || b == 127

-- a byte of a basic string (TOML, "String")
abbrev pub escaped : ℕ → List ℕ
escaped b =
    if is_quoting b then 92 ∷ b ∷ []
    else if is_control b then codes "\\u00" ++ hex_digit (b / 16) ∷ hex_digit (b % 16) ∷ []
    else b ∷ []

-- a basic string
abbrev pub quoted : List ℕ → List ℕ
quoted text = codes "\"" ++ flat_map escaped text ++ codes "\""

-- a key that needs no quotation marks (TOML, "Keys")
abbrev pub is_bare_key : List ℕ → Bool
is_bare_key [] = false
is_bare_key (b ∷ bs) = list_all is_bare (b ∷ bs)

-- a word, which has no byte 0 in it, and the mark of its end
abbrev pub ended : List ℕ → List ℕ
ended word = word ++ 0 ∷ []

abbrev pub key_code : List ℕ → List ℕ
key_code key = if is_bare_key key then ended key else quoted key

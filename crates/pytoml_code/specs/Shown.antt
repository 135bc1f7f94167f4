-- How a code is shown to a person: without its marks, and with each text in it, keys too, as
-- `hidden` of `pylock_shown` shows it. A text is hidden as it is, and not as TOML writes it: by a
-- law what is shown of a value is the code of its hidden value (`HiddenValue.antt`) without marks.
use Rattle.std.specs.Prelude.{ℕ, Bool, ◌+◌, ◌*◌, ◌%◌, ◌-◌, ◌==◌, ◌++◌, nat_lt, not}
use Rattle.std.specs.Prelude.{List, [], ◌∷◌, filter, if◌then◌else◌}
use Rattle.std.specs.Str.Lossy.{utf8_lossy}
use Rattle.pylock_shown.specs.Hidden.{hidden}
use Rattle.pytoml_code.specs.Text.{quoted}

abbrev pub is_mark : ℕ → Bool
is_mark b = nat_lt b 32

-- what a hexadecimal digit stands for, and two
abbrev pub digit_value : ℕ → ℕ
digit_value b = if nat_lt b 65 then b - 48 else b - 55

abbrev pub byte_value : ℕ → ℕ → ℕ
byte_value high low = (digit_value high * 16 + digit_value low) % 256

-- a text as it is shown, as a basic string; of bytes that aren't UTF-8 what isn't is replaced
abbrev pub hidden_string : List ℕ → List ℕ
hidden_string text = quoted (hidden (utf8_lossy text))

-- a text that begins with a byte
abbrev pub with_byte : ℕ → List ℕ × List ℕ → List ℕ × List ℕ
with_byte b read = (b ∷ read.0, read.1)

abbrev mutual
  -- a code in which each text is hidden
  pub hidden_code : List ℕ → List ℕ
  hidden_code [] = []
  hidden_code (b ∷ rest) =
      if b == 34 then hidden_string (read_text rest).0 ++ (read_text rest).1
      else b ∷ hidden_code rest

  -- the text that ends with the next quotation mark, and the hidden code of what stands behind it
  pub read_text : List ℕ → List ℕ × List ℕ
  read_text [] = ([], [])
  read_text (b ∷ rest) =
      if b == 34 then ([], hidden_code rest)
      else if b == 92 then read_escape rest
      else with_byte b (read_text rest)

  -- the same behind a backslash
  pub read_escape : List ℕ → List ℕ × List ℕ
  read_escape [] = ([], [])
  read_escape (b ∷ rest) = if b == 117 then read_number rest else with_byte b (read_text rest)

  -- the same behind `\u`: two zeros, and two digits
  pub read_number : List ℕ → List ℕ × List ℕ
  read_number (first ∷ second ∷ high ∷ low ∷ rest) =
      with_byte (byte_value high low) (read_text rest)
  read_number bytes = ([], [])

-- a code without its marks
abbrev pub plain : List ℕ → List ℕ
plain code = utf8_lossy (filter (λ b. not (is_mark b)) code)

-- a code as it is shown
abbrev pub shown : List ℕ → List ℕ
shown code = plain (hidden_code code)

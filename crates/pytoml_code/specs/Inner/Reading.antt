-- A text in a code, read byte by byte.
use Rattle.std.specs.Prelude.{◌≡◌, ℕ, ◌==◌, List, [], ◌∷◌, Option, Some, None, if◌then◌else◌}
use Rattle.std.specs.Borrow.{Bor}
use Rattle.pytoml_code.specs.Shown.{hidden_code, with_byte, read_text}

-- what stands behind the quotation mark that ends a text
abbrev pub behind_end : List ℕ → List ℕ
behind_end [] = []
behind_end (b ∷ rest) = if b == 34 then rest else []

-- what was to be read is this byte and what is read behind it; or the text has ended
abbrev pub AfterByte : List ℕ × List ℕ → List ℕ → Option (ℕ × Bor (List ℕ)) → Type 0
AfterByte read behind None = read ≡ ([], hidden_code behind)
AfterByte read behind (Some next) = read ≡ with_byte next.0 (read_text next.1.now)

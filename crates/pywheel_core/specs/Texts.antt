-- Texts that are cut at a byte.
use Rattle.std.specs.Prelude.{◌≡◌, ℕ, ◌-◌, Bool, false, ◌==◌, ◌&&◌, ◌||◌, if◌then◌else◌}
use Rattle.std.specs.Prelude.{List, [], ◌∷◌, length, take, drop, bytes_eq}
use Rattle.std.specs.Prelude.{Option, Some, None, is_none, option_map}
use Rattle.std.specs.List.{list_any, slice_split}
use Rattle.pytext.specs.Options.{◌>>=◌, either}

-- no `-` stands in the text
abbrev pub IsUndashed : List ℕ → Type 0
IsUndashed text = list_any (λ b. b == 45) text ≡ false

-- what stands before this ending, where the text has it
unfoldable pub before_ending : List ℕ → List ℕ → Option (List ℕ)
before_ending ending text =
    let place = length text - length ending in
    if bytes_eq (drop place text) ending then Some (take place text) else None

-- one more byte before what stands before the cut
abbrev pub before_cut : ℕ → List ℕ × List ℕ → List ℕ × List ℕ
before_cut b parts = (b ∷ parts.0, parts.1)

-- what stands before the first such byte, and what stands after it; nothing where the text has no
-- such byte
abbrev pub cut_at : ℕ → List ℕ → Option (List ℕ × List ℕ)
cut_at byte [] = None
cut_at byte (b ∷ rest) =
    if b == byte then Some ([], rest) else option_map (before_cut b) (cut_at byte rest)

-- what stands before the last such byte, and what stands after it
abbrev pub cut_at_last : ℕ → List ℕ → Option (List ℕ × List ℕ)
cut_at_last byte [] = None
cut_at_last byte (b ∷ rest) =
    either (option_map (before_cut b) (cut_at_last byte rest))
    (if b == byte then Some ([], rest) else None)

-- the three parts of a text with two such bytes, which stand between them
unfoldable pub three_parts : ℕ → List ℕ → Option (List ℕ × List ℕ × List ℕ)
three_parts byte text = do
  first ← cut_at byte text
  second ← cut_at byte first.1
  if is_none (cut_at byte second.1) then Some (first.0, second.0, second.1) else None

-- what stands before, between and after each such byte
abbrev pub pieces_at : ℕ → List ℕ → List (List ℕ)
pieces_at byte text = slice_split (λ b. b == byte) text

-- whether the text begins with such a byte
abbrev pub begins_with : ℕ → List ℕ → Bool
begins_with byte [] = false
begins_with byte (b ∷ rest) = b == byte

-- whether such a byte stands twice in a row
abbrev pub has_pair : ℕ → List ℕ → Bool
has_pair byte [] = false
has_pair byte (b ∷ rest) = ((b == byte) && begins_with byte rest) || has_pair byte rest

-- What the laws say of the parts of a text.
use Rattle.std.specs.Prelude.{◌≡◌, ℕ, Bool, true, false, ◌==◌, ◌||◌, List, [], ◌∷◌}
use Rattle.std.specs.List.{list_any}

-- none of these bytes stands in the text
abbrev pub Lacks : List ℕ → List ℕ → Type 0
Lacks bytes text = list_any (λ b. list_any (λ byte. b == byte) bytes) text ≡ false

-- `&` and `;`
abbrev pub is_mark : ℕ → Bool
is_mark b = b == 38 || b == 59

-- a piece of a query begins behind this text: it is empty, or ends with `&` or `;`
abbrev pub begins_piece : List ℕ → Bool
begins_piece [] = true
begins_piece (b ∷ []) = is_mark b
begins_piece (a ∷ b ∷ rest) = begins_piece (b ∷ rest)

-- a piece of a query ends before this text: it is empty, or begins with `&`, `;` or `#`
abbrev pub ends_piece : List ℕ → Bool
ends_piece [] = true
ends_piece (b ∷ rest) = is_mark b || b == 35

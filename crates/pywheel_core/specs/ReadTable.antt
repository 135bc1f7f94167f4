-- Tables of what was read already, by its text.
use Rattle.std.specs.Prelude.{◌≡◌, ℕ, List, [], ◌∷◌, Result, Ok, string_bytes}
use Rattle.std.specs.declared.alloc.Global.{Global}
use Rattle.std.specs.declared.string.String.{String}

-- each value, seen by `view`, is what its text is read as
abbrev pub AllRead : {X V E : Type 0} → (List ℕ → Result V E) → (X → V)
    → List (String Global × X) → Type 0
AllRead read view [] = Unit {0}
AllRead read view (e ∷ es) = (read (string_bytes e.0) ≡ Ok (view e.1)) × AllRead read view es

-- The fields of a line, in the parts in which they are pushed.
use Rattle.std.specs.Prelude.{ℕ, Bool, ◌==◌, ◌&&◌, ◌++◌, not, nat_lt, List, ◌∷◌, codes}
use Rattle.std.specs.List.{flat_map}
use Rattle.pylock_run.specs.Text.Field.{escaped_text}

-- a byte that stands in a field as it is by a quick test: neither one of the first fourteen control
-- characters nor a backslash
abbrev pub is_ordinary : ℕ → Bool
is_ordinary b = nat_lt 13 b && not (b == 92)

-- a hash as it stands in its field
abbrev pub escaped_hash : List ℕ × List ℕ → List ℕ
escaped_hash hash = escaped_text hash.0 ++ codes "=" ++ escaped_text hash.1

-- the hashes after the first, as they stand in the field
abbrev pub more_hashes : List (List ℕ × List ℕ) → List ℕ
more_hashes hashes = flat_map (λ hash. 44 ∷ escaped_hash hash) hashes

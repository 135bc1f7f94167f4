-- Texts that stand behind one another, with their lengths beside them.
use Rattle.std.specs.Prelude.{◌≡◌, ℕ, List, [], ◌∷◌, Option, Some, None, drop, length, map}
use Rattle.std.specs.List.{flat_map}
use Rattle.std.specs.Prelude.{if◌then◌else◌, nat_lt, option_map, take}

-- the parts of the bytes that have these lengths; none where the lengths don't add up to the bytes
abbrev pub cut_by : List ℕ → List ℕ → Option (List (List ℕ))
cut_by [] [] = Some []
cut_by [] (byte ∷ bytes) = None
cut_by (n ∷ ns) bytes = if nat_lt (length bytes) n then None
    else option_map (λ parts. take n bytes ∷ parts) (cut_by ns (drop n bytes))

-- the parts have these lengths, and one behind another they are the bytes
pub record AreParts (lengths bytes : List ℕ) (parts : List (List ℕ)) : Type 0 where
  pub lengths_are : map length parts ≡ lengths
  pub bytes_are : flat_map (λ part. part) parts ≡ bytes

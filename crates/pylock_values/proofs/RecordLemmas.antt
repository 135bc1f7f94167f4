-- Records as fields behind a TAB each.
use Rattle.std.proofs.Common.{◌≡◌, [], ◌∷◌, ℕ, List, Option, drop, refl}
use Rattle.std.specs.List.{flat_map}
use Rattle.pylock_values.specs.Record.{next_field, record_of}

-- a record is its fields without the TAB of the first
pub record_is : (parts : List (Option (List ℕ))) → drop 1 (flat_map next_field parts) ≡ record_of parts
record_is [] = refl
record_is (part ∷ parts) = refl

-- Marks of the parts of tags. A part has one mark, of which there are 256.
use Rattle.std.specs.Prelude.{◌≡◌, ℕ, ◌+◌, ◌-◌, ◌*◌, ◌%◌, Bool, true, false, nat_lt}
use Rattle.std.specs.Prelude.{if◌then◌else◌, List, [], ◌∷◌, length, slice_index_or, Option, IfSome}
use Rattle.pywheel_core.specs.Tag.{TagValue}

-- by the first byte, the last one, the last but two, and the length
unfoldable pub mark_of : List ℕ → ℕ
mark_of part = if nat_lt (length part) 3 then length part else
    (31 * slice_index_or part 0 0 + 7 * slice_index_or part (length part - 3) 0
    + slice_index_or part (length part - 1) 0 + 3 * (length part % 64)) % 256

-- the parts of the tag have flags: those of the Pythons come first, then those of the ABIs
abbrev pub IsMarked : List Bool → TagValue → Type 0
IsMarked flags t = (slice_index_or flags (mark_of t.python) false ≡ true)
    × (slice_index_or flags (256 + mark_of t.abi) false ≡ true)
    × (slice_index_or flags (512 + mark_of t.platform) false ≡ true)

-- those of each tag do
abbrev pub AreMarked : List Bool → List TagValue → Type 0
AreMarked flags [] = Unit {0}
AreMarked flags (t ∷ tags) = IsMarked flags t × AreMarked flags tags

-- where there are flags
abbrev pub AreAllMarked : Option (List Bool) → List TagValue → Type 0
AreAllMarked marks tags = IfSome marks (λ flags. AreMarked flags tags)

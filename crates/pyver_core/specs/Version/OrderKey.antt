-- The order key of a version: numbers whose order, one by one and a shorter list first, is the
-- order of versions (the law `keys_stand_in_order`; PEP 440, "Summary of permitted suffixes and
-- relative ordering"). Of a version that a program holds each of them is a byte.
use Rattle.std.specs.Prelude.{ℕ, zero, suc, ◌+◌, ◌/◌, ◌%◌, nat_lt, if◌then◌else◌, List, [], ◌∷◌}
use Rattle.std.specs.Prelude.{◌++◌, Option, Some, None}
use Rattle.std.specs.List.{flat_map}
use Rattle.pyver_core.specs.Version.Hashing.{without_trailing_zeros}
use Rattle.pyver_core.specs.Version.Order.{phase_number, phase_rank}
use Rattle.pyver_core.specs.Version.Parts.{Parts}
use Rattle.pyver_core.specs.declared.version.part.LocalPart.{LocalPart}
use Rattle.pyver_core.specs.declared.version.part.LocalPart.TheVariants.{Number, Text}

-- the first number whose key has more than one byte
abbrev pub short_end : ℕ
short_end = 253

-- A number below that is the byte above it. A greater one is 254, the key of its quotient by 256,
-- and the remainder. So the key of a number begins with a byte from 1 to 254.
abbrev pub number_key_with_fuel : ℕ → ℕ → List ℕ
number_key_with_fuel zero n = (n + 1) ∷ []
number_key_with_fuel (suc fuel) n =
    if nat_lt n short_end then (n + 1) ∷ []
    else 254 ∷ (number_key_with_fuel fuel (n / 256) ++ n % 256 ∷ [])

unfoldable pub number_key : ℕ → List ℕ
number_key n = number_key_with_fuel n n

-- a list: the keys of its items, and 0, which is less than the key of any item
abbrev pub list_key : {X : Type 0} → (X → List ℕ) → List X → List ℕ
list_key item_key items = flat_map item_key items ++ 0 ∷ []

-- a number that may be absent, and what then stands for it: 0, which is less than the key of any
-- number, or 255, which is greater
abbrev pub optional_key : ℕ → Option ℕ → List ℕ
optional_key absent None = absent ∷ []
optional_key absent (Some n) = number_key n

-- a segment of the local part: a text is less than a number
abbrev pub segment_key : LocalPart → List ℕ
segment_key (Text text) = 1 ∷ list_key number_key text
segment_key (Number n) = 2 ∷ number_key n

-- the keys of what `version_cmp` compares, one after the other
abbrev pub order_key : Parts → List ℕ
order_key v = number_key v.epoch
    ++ (list_key number_key (without_trailing_zeros v.release)
    ++ (phase_rank v.pre v.post v.dev ∷ (number_key (phase_number v.pre)
    ++ (optional_key 0 v.post ++ (optional_key 255 v.dev ++ list_key segment_key v.local)))))

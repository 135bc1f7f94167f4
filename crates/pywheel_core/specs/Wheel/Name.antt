-- The name of the project in the name of a wheel (PEP 427, "Escaping and Unicode").
use Rattle.std.specs.Prelude.{ℕ, Bool, ◌==◌, ◌&&◌, ◌||◌, not, nat_lt, List, length}
use Rattle.std.specs.Char.{is_ascii_alphanumeric}
use Rattle.std.specs.List.{list_all}
use Rattle.pywheel_core.specs.Texts.{has_pair}

-- an ASCII letter, a digit, `_` or `.`
abbrev pub is_wheel_name_byte : ℕ → Bool
is_wheel_name_byte b = is_ascii_alphanumeric b || ((b == 95) || (b == 46))

-- one or more of these, without `__`
abbrev pub is_wheel_name : List ℕ → Bool
is_wheel_name name =
    (nat_lt 0 (length name) && list_all is_wheel_name_byte name) && not (has_pair 95 name)

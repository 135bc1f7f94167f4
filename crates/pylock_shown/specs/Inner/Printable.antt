-- A quick test of the bytes of texts that have no control character.
use Rattle.std.specs.Prelude.{ℕ, Bool, ◌&&◌, nat_lt}

-- a printable character of ASCII, a space among them
abbrev pub is_printable : ℕ → Bool
is_printable b = nat_lt 31 b && nat_lt b 127

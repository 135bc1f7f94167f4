-- Bytes that are no `-`.
use Rattle.std.specs.Prelude.{ℕ, Bool, ◌==◌, not}

abbrev pub is_undashed : ℕ → Bool
is_undashed b = not (b == 45)

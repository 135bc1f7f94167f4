-- A source and a sink over memory, as contracts see them.
use Rattle.std.specs.Prelude.{◌≡◌, ℕ, ◌-◌, List, Option, None, Some, nat_le, if◌then◌else◌}

-- a source over memory: the bytes to come, how many a call moves at most, in how many calls it
-- fails, and its failures
pub record PiecesValue : Type 0 where
  pub rest : List ℕ
  pub piece : ℕ
  pub fails_in : Option ℕ
  pub failures : ℕ

-- a sink over memory: the bytes taken, how many it holds at most, how many a call moves at most, in
-- how many calls it fails, and its failures
pub record RoomValue : Type 0 where
  pub held : List ℕ
  pub capacity : ℕ
  pub piece : ℕ
  pub fails_in : Option ℕ
  pub failures : ℕ

-- the next call fails
abbrev pub FailsNext : Option ℕ → Type 0
FailsNext fails_in = fails_in ≡ Some 1

-- in how many calls it fails, after one call more; it fails once at most
abbrev pub after_call : Option ℕ → Option ℕ
after_call None = None
after_call (Some n) = (if nat_le n 1 then None else Some (n - 1))

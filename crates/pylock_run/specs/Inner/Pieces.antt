-- A source that is read piece by piece.
use Rattle.std.specs.Prelude.{◌≡◌, ℕ, ◌++◌, List}
use Rattle.std.specs.Io.KnownBytes.{Consumes}
use Rattle.pylock_run.specs.Stream.{SourceValue}

-- the source gave a piece, which stands behind the bytes before it, and no call failed
pub record GivesPiece (old new : SourceValue) (before after : List ℕ) : Type 0 where
  pub piece : List ℕ
  pub gave : Consumes old.rest new.rest piece
  pub grown : after ≡ before ++ piece
  pub counted : new.failures ≡ old.failures

-- A text that is written in parts.
use Rattle.std.specs.Prelude.{◌≡◌, ℕ, List, ◌++◌}
use Rattle.std.specs.Io.KnownBytes.{Appends}
use Rattle.pylock_run.specs.Stream.{SinkValue}

-- the text was written, and no call failed
pub record Writes (old new : SinkValue) (text : List ℕ) : Type 0 where
  pub held : Appends old.held new.held text
  pub counted : new.failures ≡ old.failures

-- a prefix of the text was written, without a failure, and the rest stands in `out`
pub record Pours (old new : SinkValue) (text out : List ℕ) : Type 0 where
  pub written : List ℕ
  pub whole : text ≡ written ++ out
  pub writes : Writes old new written

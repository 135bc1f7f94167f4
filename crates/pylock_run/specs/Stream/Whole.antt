-- A source that is read to its end.
use Rattle.std.specs.Prelude.{◌≡◌, ℕ, ◌<◌, ◌≤◌, List, length}
use Rattle.std.specs.Io.KnownBytes.{Consumes, IsAtEnd}
use Rattle.pylock_run.specs.Stream.{SourceValue, one_more}
use Rattle.pylock_run.specs.declared.stream.whole.FileFault.{FileFault}
use Rattle.pylock_run.specs.declared.stream.whole.FileFault.TheVariants.{Read, Limit, Memory}

-- the most bytes that are asked for at once
abbrev pub most_piece_bytes : ℕ
most_piece_bytes = 65536

-- the source gave exactly these bytes up to its end, at most the limit of them, and no call failed
pub record GivesAll (limit : ℕ) (old new : SourceValue) (bytes : List ℕ) : Type 0 where
  pub gave : Consumes old.rest new.rest bytes
  pub end : IsAtEnd new.rest
  pub within : length bytes ≤ limit
  pub counted : new.failures ≡ old.failures

-- the source gave bytes, at most the limit of them
pub record GivesWithin (limit : ℕ) (old new : SourceValue) : Type 0 where
  pub given : List ℕ
  pub gave : Consumes old.rest new.rest given
  pub within : length given ≤ limit

-- the source gave more bytes than the limit
pub record GivesPast (limit : ℕ) (old new : SourceValue) : Type 0 where
  pub given : List ℕ
  pub gave : Consumes old.rest new.rest given
  pub past : limit < length given

-- The fault that was met first, and that no other was met before it: one read failed within the
-- limit; or the limit was passed before a read failed; or an allocation was refused before either.
-- A source that is open is there to be read.
abbrev pub IsCause : ℕ → SourceValue → SourceValue → FileFault → Type 0
IsCause limit old new Read = GivesWithin limit old new × (new.failures ≡ one_more old.failures)
IsCause limit old new Limit = GivesPast limit old new × (new.failures ≡ old.failures)
IsCause limit old new Memory = GivesWithin limit old new × (new.failures ≡ old.failures)
IsCause limit old new fault = ⊥

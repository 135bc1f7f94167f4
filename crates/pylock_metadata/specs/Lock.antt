-- A lock with what it says of its files.
use Rattle.std.specs.Prelude.{ℕ, List, Result, Ok}
use Rattle.pytext.specs.Results.{◌>>=◌}
use Rattle.pylock_readers.specs.Lock.{LockValue}
use Rattle.pylock_readers.specs.Lock.Reading.{document_in, lock_of}
use Rattle.pylock_readers.specs.declared.error.LockError.{LockError}
use Rattle.pylock_metadata.specs.Metadata.{EntryValue, metadata_of}

-- the lock that the bytes are, with what its document says of the files of its entries, or the
-- lock's refusal
unfoldable pub described_of : List ℕ → Result (LockValue × List EntryValue) LockError
described_of bytes = do
  lock ← lock_of bytes
  document ← document_in bytes
  Ok (lock, metadata_of document)

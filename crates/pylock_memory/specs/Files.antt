-- Files in memory, as the program reads them.
use Rattle.std.specs.Prelude.{ℕ, List, [], ◌∷◌, Option, Some, None, Result, Ok, Err, length}
use Rattle.std.specs.Prelude.{if◌then◌else◌, nat_lt, ok_or}
use Rattle.pytext.specs.Results.{◌>>=◌}
use Rattle.std.specs.Str.{bytes_eq}
use Rattle.pytext.specs.Agreement.{Gives}
use Rattle.pylock_run.specs.Files.{Reads, most_file_bytes}
use Rattle.pylock_run.specs.declared.stream.whole.FileFault.{FileFault}
use Rattle.pylock_run.specs.declared.stream.whole.FileFault.TheVariants.{Limit, Memory, Missing}
use Rattle.pylock_memory.specs.declared.files.MemoryFile.{MemoryFile}

-- a file: the path by which it is named, and its bytes
pub record FileValue : Type 0 where
  pub path : List ℕ
  pub bytes : List ℕ

abbrev pub file_value : MemoryFile → FileValue
file_value file = record { path = file.path.now; bytes = file.bytes.now }

-- the bytes of the first file with the path
abbrev pub file_at : List FileValue → List ℕ → Option (List ℕ)
file_at [] path = None
file_at (file ∷ files) path =
    if bytes_eq file.path path then Some file.bytes else file_at files path

-- what is read at a path: these bytes, where there are no more than a file may have
abbrev pub file_read : List FileValue → List ℕ → Result (List ℕ) FileFault
file_read files path = ok_or (file_at files path) Missing
    >>= (λ bytes. if nat_lt most_file_bytes (length bytes) then Err Limit else Ok bytes)

-- the same, unless memory runs out
abbrev pub reads_of : List FileValue → Reads
reads_of files path result = Gives Memory (λ bytes. bytes) result (file_read files path)

-- files that are given as a path and its bytes by turns; a path without bytes is left out
abbrev pub files_by_turns : List (List ℕ) → List FileValue
files_by_turns (path ∷ bytes ∷ parts) =
    record { path = path; bytes = bytes } ∷ files_by_turns parts
files_by_turns parts = []

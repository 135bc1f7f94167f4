-- What the paths of the command line give: `-` is standard input, and any other path a file; and
-- the environment of a machine.
use Rattle.std.specs.Borrow.{Bor}
use Rattle.std.specs.Prelude.{◌≡◌, ◌⊎◌, ℕ, Bool, true, false, List, [], ◌∷◌, codes, MatchResult}
use Rattle.std.specs.Prelude.{Option, Some, None, Result, Ok, Err}
use Rattle.std.specs.Result.{result_map_both}
use Rattle.std.specs.Str.{bytes_eq}
use Rattle.pytext.specs.Results.{◌>>=◌}
use Rattle.pylock_command.specs.declared.machine.Machine.{Machine}
use Rattle.pylock_command.specs.declared.machine.Machine.TheVariants as machine
use Rattle.pylock_program.specs.declared.failure.Failure.{Failure}
use Rattle.pylock_program.specs.declared.failure.Failure.TheVariants.{File, Memory}
use Rattle.pylock_readers.specs.Environment.{EnvironmentRead, env_of}
use Rattle.pylock_readers.specs.Target.{target_env_of}
use Rattle.pylock_run.specs.Files.{Reads, most_file_bytes}
use Rattle.pylock_run.specs.Stream.{SourceValue}
use Rattle.pylock_run.specs.Stream.Whole.{GivesAll, IsCause}
use Rattle.pylock_run.specs.declared.stream.whole.FileFault.{FileFault}
use Rattle.pylock_run.specs.declared.stream.whole.FileFault.TheVariants as file

-- how the program ends where a file can't be read
abbrev pub file_failure : FileFault → Failure
file_failure file.Memory = Memory
file_failure fault = File

abbrev pub is_input : List ℕ → Bool
is_input path = bytes_eq path (codes "-")

-- standard input, read to its end as a file is
abbrev pub GivesInput : SourceValue → SourceValue → Result (List ℕ) FileFault → Type 0
GivesInput source source' (Ok bytes) = GivesAll most_file_bytes source source' bytes
GivesInput source source' (Err fault) = IsCause most_file_bytes source source' fault

-- what stands at a path is read, by what reads of files may give; for a file, standard input stays
-- as it is
pub record IsRead (gives : Reads) (path : List ℕ) (source source' : SourceValue)
    (read : Result (List ℕ) FileFault) : Type 0 where
  pub input : is_input path ≡ true → GivesInput source source' read
  pub file : is_input path ≡ false → gives path read × (source' ≡ source)

-- the same, with the program's failure for a fault
pub record IsReadAs (gives : Reads) (path : List ℕ) (source source' : SourceValue)
    (result : Result (List ℕ) Failure) : Type 0 where
  pub read : Result (List ℕ) FileFault
  pub given : IsRead gives path source source' read
  pub tells : result ≡ result_map_both (λ bytes. bytes) file_failure read

-- how one read and then the others are told of
abbrev pub Readings : Type 0 → Type 1
Readings A = SourceValue → SourceValue → Result A Failure → Type 0

-- the first is read, and then, unless that failed, the others
pub record AreJoined (IsFirst : Readings (List ℕ)) (AreOthers : Readings (List (List ℕ)))
    (source source' : SourceValue) (result : Result (List (List ℕ)) Failure) : Type 0 where
  pub first : Result (List ℕ) Failure
  pub others : Result (List (List ℕ)) Failure
  pub between : SourceValue
  pub is_first : IsFirst source between first
  pub are_others : MatchResult first (λ _. AreOthers between source' others)
      (λ _. source' ≡ between)
  pub joins : result ≡ (first >>= λ bytes. others >>= λ more. Ok (bytes ∷ more))

-- what stands at each of these paths is read, in order; the first that can't be ends it
unfoldable pub AreReadAs : Reads → List (List ℕ) → Readings (List (List ℕ))
AreReadAs gives [] source source' result = (result ≡ Ok []) × (source' ≡ source)
AreReadAs gives (path ∷ paths) source source' result =
    AreJoined (IsReadAs gives path) (AreReadAs gives paths) source source' result

-- the same, unless memory ran out
abbrev pub AreRead : Reads → List (List ℕ) → Readings (List (List ℕ))
AreRead gives paths source source' result =
    AreReadAs gives paths source source' result ⊎ (result ≡ Err Memory)

-- what stands at a path is read, if there is one
abbrev pub IsMaybeRead : Reads → Option (Bor (List ℕ)) → Readings (Option (List ℕ))
IsMaybeRead gives None source source' result = (result ≡ Ok None) × (source' ≡ source)
IsMaybeRead gives (Some path) source source' result =
    (bytes : Result (List ℕ) Failure) × IsReadAs gives path.now source source' bytes
    × (result ≡ result_map_both (λ b. Some b) (λ failure. failure) bytes)

-- the environment of a machine is read: from its file, or it is that of the target
abbrev pub IsMachineRead : Reads → Machine → SourceValue → SourceValue
    → Result EnvironmentRead Failure → Type 0
IsMachineRead gives (machine.File path) source source' result =
    (bytes : Result (List ℕ) Failure) × IsReadAs gives path.now source source' bytes
    × (result ≡ result_map_both env_of (λ failure. failure) bytes)
IsMachineRead gives (machine.Target target) source source' result =
    (result ≡ Ok (target_env_of target.python.now target.platform.now))
    × (source' ≡ source)

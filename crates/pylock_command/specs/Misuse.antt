-- Why words that clap takes ask for nothing, in clap's terms.
use Rattle.std.specs.Prelude.{◌≡◌, ⊤, List, [], ◌∷◌, MatchResult, Option, Some, None, Result}
use Rattle.std.specs.Prelude.{if◌then◌else◌, is_some}
use Rattle.clap.specs.Words.{Row, Text, first_of}
use Rattle.clap.specs.declared.error.kind.ErrorKind.{ErrorKind}
use Rattle.clap.specs.declared.error.kind.ErrorKind.TheVariants.{ArgumentConflict}
use Rattle.clap.specs.declared.error.kind.ErrorKind.TheVariants.{MissingRequiredArgument}
use Rattle.clap.specs.declared.error.kind.ErrorKind.TheVariants.{InvalidValue}
use Rattle.pylock_command.specs.declared.misuse.Misuse.{Misuse}
use Rattle.pylock_command.specs.declared.misuse.Misuse.TheVariants.{BadTime, EditsAndFile}
use Rattle.pylock_command.specs.declared.misuse.Misuse.TheVariants.{EnvAndMatrix}
use Rattle.pylock_command.specs.declared.misuse.Misuse.TheVariants.{FormatOfRows, HalfTarget}
use Rattle.pylock_command.specs.declared.misuse.Misuse.TheVariants.{Missing, NoBase, NoFileFormat}
use Rattle.pylock_command.specs.declared.misuse.Misuse.TheVariants.{NoAuditFormat, NoMachine}
use Rattle.pylock_command.specs.declared.misuse.Misuse.TheVariants.{NoPlanFormat}
use Rattle.pylock_command.specs.declared.misuse.Misuse.TheVariants.{NoPlans, NoTime, NoUrls}
use Rattle.pylock_command.specs.declared.misuse.Misuse.TheVariants.{StrayTime, TwoForms, TwoInputs}
use Rattle.pylock_command.specs.declared.misuse.Misuse.TheVariants.{TwoMachines}
use Rattle.pylock_command.specs.declared.misuse.NoTask.{NoTask}
use Rattle.pylock_command.specs.declared.misuse.NoTask.TheVariants.{Memory, Misused}

-- the kind of error that tells it
abbrev pub kind_of_misuse : Misuse → ErrorKind
kind_of_misuse Missing = MissingRequiredArgument
kind_of_misuse NoMachine = MissingRequiredArgument
kind_of_misuse HalfTarget = MissingRequiredArgument
kind_of_misuse NoPlans = MissingRequiredArgument
kind_of_misuse FormatOfRows = MissingRequiredArgument
kind_of_misuse NoTime = MissingRequiredArgument
kind_of_misuse NoUrls = MissingRequiredArgument
kind_of_misuse TwoMachines = ArgumentConflict
kind_of_misuse EnvAndMatrix = ArgumentConflict
kind_of_misuse TwoForms = ArgumentConflict
kind_of_misuse StrayTime = ArgumentConflict
kind_of_misuse TwoInputs = ArgumentConflict
kind_of_misuse NoPlanFormat = InvalidValue
kind_of_misuse NoFileFormat = InvalidValue
kind_of_misuse NoAuditFormat = InvalidValue
kind_of_misuse BadTime = InvalidValue
kind_of_misuse NoBase = InvalidValue
kind_of_misuse EditsAndFile = InvalidValue

-- the first of these that there is
abbrev pub first : List (Option Misuse) → Option Misuse
first [] = None
first (None ∷ others) = first others
first (Some misuse ∷ others) = Some misuse

-- an argument has no text
abbrev pub lack : Text → List Row → Option Misuse
lack id rows = if is_some (first_of id rows) then None else Some Missing

-- the words are refused exactly by this misuse, and taken where there is none
abbrev pub Refuses : {T : Type 0} → Option Misuse → Result T Misuse → Type 0
Refuses misuse result = MatchResult result (λ _. misuse ≡ None) (λ told. misuse ≡ Some told)

-- the same, but that memory may run out
abbrev pub IsTold : Option Misuse → NoTask → Type 0
IsTold misuse (Misused told) = misuse ≡ Some told
IsTold misuse Memory = ⊤

abbrev pub RefusesUnless : {T : Type 0} → Option Misuse → Result T NoTask → Type 0
RefusesUnless misuse result = MatchResult result (λ _. misuse ≡ None) (IsTold misuse)

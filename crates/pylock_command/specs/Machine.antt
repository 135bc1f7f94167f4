-- The machine for which a lock is read, in clap's terms.
use Rattle.std.specs.Prelude.{◌≡◌, ◌||◌, Bool, List, [], ◌∷◌, Option, Some, None, codes}
use Rattle.std.specs.Prelude.{if◌then◌else◌, is_some, not, true}
use Rattle.clap.specs.Words.{Row, Text, first_of}
use Rattle.pylock_command.specs.Misuse.{first, lack}
use Rattle.pylock_command.specs.Texts.{HasText}
use Rattle.pylock_command.specs.declared.machine.Machine.{Machine}
use Rattle.pylock_command.specs.declared.machine.Machine.TheVariants.{File, Target}
use Rattle.pylock_command.specs.declared.machine.TargetWords.{TargetWords}
use Rattle.pylock_command.specs.declared.misuse.Misuse.{Misuse}
use Rattle.pylock_command.specs.declared.misuse.Misuse.TheVariants.{HalfTarget, NoMachine}
use Rattle.pylock_command.specs.declared.misuse.Misuse.TheVariants.{TwoMachines}

-- the target that the words name
abbrev pub IsTarget : List Row → TargetWords → Type 0
IsTarget rows target = HasText rows (codes "python") target.python.now
    × HasText rows (codes "platform") target.platform.now

-- the words have to name one
abbrev pub target_misuse : List Row → Option Misuse
target_misuse rows = first (lack (codes "python") rows ∷ lack (codes "platform") rows ∷ [])

-- the machine that the words name, where the argument `file` is the path of an environment
abbrev pub IsMachine : Text → List Row → Machine → Type 0
IsMachine file rows (File path) = HasText rows file path.now
IsMachine file rows (Target target) = IsTarget rows target

-- the words name no machine: neither a file nor a Python nor a platform
abbrev pub are_absent : Option Text → Option Text → Option Text → Bool
are_absent file python platform = not (is_some file || is_some python || is_some platform)

abbrev pub names_none : Text → List Row → Bool
names_none file rows = are_absent (first_of file rows) (first_of (codes "python") rows)
    (first_of (codes "platform") rows)

-- the machine that the words name, if any
abbrev pub IsPlace : Text → List Row → Option Machine → Type 0
IsPlace file rows (Some machine) = IsMachine file rows machine
IsPlace file rows None = names_none file rows ≡ true

-- of a file, a Python and a platform: the first alone, or the other two, or none of them
abbrev pub parts_misuse : Option Text → Option Text → Option Text → Option Misuse
parts_misuse (Some file) None None = None
parts_misuse None (Some python) (Some platform) = None
parts_misuse None None None = None
parts_misuse (Some file) _ _ = Some TwoMachines
parts_misuse None _ _ = Some HalfTarget

abbrev pub place_misuse : Text → List Row → Option Misuse
place_misuse file rows = parts_misuse (first_of file rows) (first_of (codes "python") rows)
    (first_of (codes "platform") rows)

-- `plan`, `explain`, `select` and `marker` have to name one
abbrev pub machine_misuse : List Row → Option Misuse
machine_misuse rows =
    if names_none (codes "ENV") rows then Some NoMachine else place_misuse (codes "ENV") rows

-- The program's command line, in clap's terms.
use Rattle.std.specs.Prelude.{◌≡◌, ◌≢◌, ◌⊎◌, ⊤, true, false, codes, List, [], ◌∷◌, ◌++◌}
use Rattle.std.specs.Prelude.{find, Option, Some, None, IsSomeAnd, fold}
use Rattle.std.specs.Option.{option_map_or}
use Rattle.std.specs.Str.{bytes_eq}
use Rattle.clap.specs.Words.{App, IsAmong, Row, Rule, Text, fault_of, is_simple_and_free, kind_of}
use Rattle.clap.specs.Words.{new_app, subcommand_of, with_subcommand}
use Rattle.clap.specs.declared.error.Error.{Error}
use Rattle.clap.specs.declared.error.kind.ErrorKind.TheVariants.{OutOfMemory}
use Rattle.pylock_command.specs.Argument.{flag_rule, needed_rule, optional_rule, repeated_rule}
use Rattle.pylock_command.specs.Argument.{single_rule, text_rule, texts_rule}
use Rattle.pylock_command.specs.Asked.{IsAudit, IsCheck, IsCheckMatrix, IsComparison, IsFiles}
use Rattle.pylock_command.specs.Asked.{IsMatrix, IsOpening, IsQuestion, IsStatus, audit_misuse}
use Rattle.pylock_command.specs.Asked.{any_check_misuse, comparison_misuse, files_misuse}
use Rattle.pylock_command.specs.Asked.{has_matrix, matrix_misuse, question_misuse}
use Rattle.pylock_command.specs.Asked.{select_misuse, status_misuse}
use Rattle.pylock_command.specs.Form.{form_of}
use Rattle.pylock_command.specs.Machine.{IsMachine, IsTarget, machine_misuse, target_misuse}
use Rattle.pylock_command.specs.Misuse.{first, kind_of_misuse, lack}
use Rattle.pylock_command.specs.Subcommand.{Subcommand, row, subcommand_app}
use Rattle.pylock_command.specs.Texts.{HasText}
use Rattle.pylock_command.specs.declared.command_line.CommandError.{CommandError}
use Rattle.pylock_command.specs.declared.command_line.CommandError.TheVariants.{Refused, Memory}
use Rattle.pylock_command.specs.declared.misuse.Misuse.{Misuse}
use Rattle.pylock_command.specs.declared.misuse.Misuse.TheVariants.{Missing}
use Rattle.pylock_command.specs.declared.task.Output.{Output}
use Rattle.pylock_command.specs.declared.task.Output.TheVariants.{View}
use Rattle.pylock_command.specs.declared.task.Question.{Question}
use Rattle.pylock_command.specs.declared.task.Task.{Task}
use Rattle.pylock_command.specs.declared.task.Task.TheVariants.{Audit, Bare, Check, CheckMatrix}
use Rattle.pylock_command.specs.declared.task.Task.TheVariants.{Diff, Environment}
use Rattle.pylock_command.specs.declared.task.Task.TheVariants.{Files, Marker, Matrix, Select, Show}
use Rattle.pylock_command.specs.declared.task.Task.TheVariants.{Status, Summary}
use Rattle.pylock_command.specs.declared.task.Task.TheVariants as task
use Rattle.pylock_command.specs.declared.task.TextQuestion.{TextQuestion}
use Rattle.pylock_command.specs.declared.task.TextQuestion.TheVariants.{Match, Name, Requirement}
use Rattle.pylock_command.specs.declared.task.TextQuestion.TheVariants.{Sdist, Version, Wheel}
use Rattle.pylock_command.specs.declared.task.View.TheVariants.{Explain, Plan}

-- `pylock`, which tells its version
abbrev pub top_app : App
top_app =
    let app = new_app (codes "pylock") in
    record app { top = record app.top { has_version = true } }

-- ---- the arguments

-- the environment of a machine, or a target in its place; and the same, but by `--in`
abbrev pub target_rules : List Rule
target_rules = single_rule (codes "python") ∷ single_rule (codes "platform") ∷ []

abbrev pub machine_rules : List Rule
machine_rules = optional_rule (codes "ENV") ∷ target_rules

abbrev pub in_rules : List Rule
in_rules = single_rule (codes "in") ∷ target_rules

-- the options of `plan`
abbrev pub option_rules : List Rule
option_rules = flag_rule (codes "all-extras") ∷ repeated_rule (codes "extra")
    ∷ flag_rule (codes "no-default-groups") ∷ flag_rule (codes "all-groups")
    ∷ repeated_rule (codes "group") ∷ repeated_rule (codes "no-group")
    ∷ repeated_rule (codes "only-binary") ∷ repeated_rule (codes "no-binary")
    ∷ repeated_rule (codes "set") ∷ []

-- what is left of a plan
abbrev pub left_rules : List Rule
left_rules = repeated_rule (codes "only") ∷ repeated_rule (codes "except")
    ∷ flag_rule (codes "no-project") ∷ []

abbrev pub json : Rule
json = flag_rule (codes "json")

abbrev pub strict : Rule
strict = flag_rule (codes "strict")

abbrev pub format : Rule
format = single_rule (codes "format")

abbrev pub created : Rule
created = single_rule (codes "created")

abbrev pub base : Rule
base = single_rule (codes "base")

-- ---- the subcommands

-- the words of these have all their texts, and of `marker` they name a machine
abbrev pub match_misuse : List Row → Option Misuse
match_misuse rows = first (lack (codes "SET") rows ∷ lack (codes "VERSION") rows ∷ [])

abbrev pub marker_misuse : List Row → Option Misuse
marker_misuse rows = first (lack (codes "TEXT") rows ∷ machine_misuse rows ∷ [])

-- a lock comes first, and one text is all
abbrev pub locked : List Rule → List Rule
locked rules = text_rule (codes "LOCK") ∷ rules

abbrev pub text_row : Text → Subcommand
text_row name = row name (text_rule (codes "TEXT") ∷ json ∷ []) (lack (codes "TEXT"))

-- those that ask about a text by itself, in an environment or not
abbrev pub text_subcommands : List Subcommand
text_subcommands =
    text_row (codes "version")
    ∷ row (codes "match") (text_rule (codes "SET") ∷ text_rule (codes "VERSION") ∷ json ∷ [])
    match_misuse
    ∷ text_row (codes "name")
    ∷ row (codes "marker") (text_rule (codes "TEXT") ∷ machine_rules ++ json ∷ []) marker_misuse
    ∷ text_row (codes "requirement") ∷ text_row (codes "wheel") ∷ text_row (codes "sdist") ∷ []

abbrev pub subcommands : List Subcommand
subcommands =
    row (codes "plan")
    (locked (machine_rules ++ option_rules ++ left_rules
    ++ strict ∷ format ∷ created ∷ base ∷ json ∷ []))
    (question_misuse Plan)
    ∷ row (codes "explain") (locked (machine_rules ++ option_rules ++ strict ∷ json ∷ []))
    (question_misuse Explain)
    ∷ row (codes "select") (locked (machine_rules ++ strict ∷ json ∷ [])) select_misuse
    ∷ row (codes "matrix")
    (locked (target_rules ++ option_rules ++ flag_rule (codes "no-build") ∷ strict
    ∷ flag_rule (codes "files") ∷ format ∷ json ∷ [])) matrix_misuse
    ∷ row (codes "status")
    (locked (machine_rules ++ needed_rule (codes "installed") ∷ flag_rule (codes "exact")
    ∷ option_rules ++ strict ∷ json ∷ [])) status_misuse
    ∷ row (codes "check")
    (locked (text_rule (codes "PROJECT") ∷ machine_rules ++ flag_rule (codes "matrix")
    ∷ option_rules ++ strict ∷ json ∷ [])) any_check_misuse
    ∷ row (codes "show") (locked (json ∷ [])) (lack (codes "LOCK"))
    ∷ row (codes "files")
    (texts_rule (codes "LOCK") ∷ left_rules ++ format ∷ base ∷ json ∷ []) files_misuse
    ∷ row (codes "audit")
    (locked (flag_rule (codes "environments") ∷ repeated_rule (codes "advisories")
    ∷ repeated_rule (codes "host") ∷ single_rule (codes "fail-on")
    ∷ repeated_rule (codes "ignore") ∷ single_rule (codes "config") ∷ format ∷ json ∷ []))
    audit_misuse
    ∷ row (codes "diff") (text_rule (codes "OLD") ∷ text_rule (codes "NEW") ∷ in_rules
    ++ option_rules ++ json ∷ []) comparison_misuse
    ∷ row (codes "environment")
    (needed_rule (codes "python") ∷ needed_rule (codes "platform") ∷ []) target_misuse
    ∷ text_subcommands

unfoldable pub pylock_app : App
pylock_app = fold (λ app s. with_subcommand app (subcommand_app s).top) top_app subcommands

-- A command by which clap makes of these words what it makes of them by the program's, and of which
-- it tells what that is. It may know fewer subcommands.
pub record IsEnough (words : List Text) (app : App) : Type 0 where
  pub tells : is_simple_and_free app ≡ true
  pub same_faults : fault_of app words ≡ fault_of pylock_app words
  pub same_subcommand : subcommand_of app words ≡ subcommand_of pylock_app words

-- why the words of a subcommand that clap takes are refused; one that is none of the program's is
abbrev pub misuse_among : List Subcommand → Text → List Row → Option Misuse
misuse_among known name rows =
    option_map_or (λ s. s.misuse rows) (find (λ s. bytes_eq name s.name) known) (Some Missing)

abbrev pub misuse_in : Text → List Row → Option Misuse
misuse_in = misuse_among subcommands

abbrev pub misuse_of : Option (Text × List Row) → Option Misuse
misuse_of None = None
misuse_of (Some found) = misuse_in found.0 found.1

-- ---- the tasks

-- the words have this subcommand, and its arguments are so
abbrev pub IsIn : Option (Text × List Row) → Text → (List Row → Type 0) → Type 0
IsIn found name Are = IsSomeAnd found (λ p. (p.0 ≡ name) × Are p.1)

-- what is asked about a text by itself
abbrev pub IsTextQuestion : Text → List Row → TextQuestion → Type 0
IsTextQuestion name rows (Version text) =
    (name ≡ codes "version") × HasText rows (codes "TEXT") text.now
IsTextQuestion name rows (Match set version) = (name ≡ codes "match")
    × HasText rows (codes "SET") set.now × HasText rows (codes "VERSION") version.now
IsTextQuestion name rows (Name text) = (name ≡ codes "name") × HasText rows (codes "TEXT") text.now
IsTextQuestion name rows (Requirement text) =
    (name ≡ codes "requirement") × HasText rows (codes "TEXT") text.now
IsTextQuestion name rows (Wheel text) =
    (name ≡ codes "wheel") × HasText rows (codes "TEXT") text.now
IsTextQuestion name rows (Sdist text) =
    (name ≡ codes "sdist") × HasText rows (codes "TEXT") text.now

-- `plan` or `explain`, by how the answer is printed
abbrev pub IsShown : Option (Text × List Row) → Question → Output → Type 0
IsShown found question (View Explain form) =
    IsIn found (codes "explain") (λ rows. IsQuestion Explain rows question)
IsShown found question _ = IsIn found (codes "plan") (λ rows. IsQuestion Plan rows question)

-- the task that the words give
abbrev pub IsTask : Option (Text × List Row) → Task → Type 0
IsTask found Bare = found ≡ None
IsTask found (Show question) = IsShown found question question.output
IsTask found (Select opening form) =
    IsIn found (codes "select") (λ rows. IsOpening rows opening × (form ≡ form_of rows))
IsTask found (Matrix asked) = IsIn found (codes "matrix") (λ rows. IsMatrix rows asked)
IsTask found (Status asked) = IsIn found (codes "status") (λ rows. IsStatus rows asked)
IsTask found (Check asked) =
    IsIn found (codes "check") (λ rows. (has_matrix rows ≡ false) × IsCheck rows asked)
IsTask found (CheckMatrix asked) =
    IsIn found (codes "check") (λ rows. (has_matrix rows ≡ true) × IsCheckMatrix rows asked)
IsTask found (Summary lock form) = IsIn found (codes "show")
    (λ rows. HasText rows (codes "LOCK") lock.now × (form ≡ form_of rows))
IsTask found (Files asked) = IsIn found (codes "files") (λ rows. IsFiles rows asked)
IsTask found (Audit asked) = IsIn found (codes "audit") (λ rows. IsAudit rows asked)
IsTask found (Diff comparison) = IsIn found (codes "diff") (λ rows. IsComparison rows comparison)
IsTask found (Environment target) =
    IsIn found (codes "environment") (λ rows. IsTarget rows target)
IsTask found (Marker text machine form) = IsIn found (codes "marker") (λ rows.
    HasText rows (codes "TEXT") text.now × IsMachine (codes "ENV") rows machine
    × (form ≡ form_of rows))
IsTask found (task.Text question form) =
    IsSomeAnd found (λ p. IsTextQuestion p.0 p.1 question × (form ≡ form_of p.1))

-- ---- refusals

-- clap takes the words, which ask for nothing, and the error has the kind that tells why
abbrev pub TellsMisuse : List Text → Error → Type 0
TellsMisuse words error = (fault_of pylock_app words ≡ [])
    × IsSomeAnd (misuse_of (subcommand_of pylock_app words))
    (λ misuse. kind_of error ≡ kind_of_misuse misuse)

-- Why words are refused: clap has this kind of error for them, or it takes them and they ask for
-- nothing. Out of memory says nothing of the words.
abbrev pub IsRefusal : List Text → CommandError → Type 0
IsRefusal words (Refused error) = (kind_of error ≢ OutOfMemory)
    × (IsAmong (kind_of error) (fault_of pylock_app words) ⊎ TellsMisuse words error)
IsRefusal words Memory = ⊤

-- what becomes of an error of clap's: it is the refusal, unless memory ran out
abbrev pub Keeps : Error → CommandError → Type 0
Keeps error (Refused kept) = (kept ≡ error) × (kind_of error ≢ OutOfMemory)
Keeps error Memory = kind_of error ≡ OutOfMemory

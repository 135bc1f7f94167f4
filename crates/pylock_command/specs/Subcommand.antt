-- A subcommand, in clap's terms.
use Rattle.std.specs.Option.{option_map_or}
use Rattle.std.specs.Prelude.{Bool, List, [], ◌∷◌, Option, find, fold, slice_get}
use Rattle.std.specs.Str.{bytes_eq}
use Rattle.clap.specs.Words.{App, Row, Rule, Text, new_app, with_rule, with_subcommand}
use Rattle.pylock_command.specs.Argument.{with_arguments}
use Rattle.pylock_command.specs.declared.misuse.Misuse.{Misuse}
use Rattle.pylock_command.specs.declared.subcommand.Usage.{Usage}

-- its name, its arguments, and which of its words are refused though clap takes them
pub record Subcommand : Type 0 where
  pub name : Text
  pub rules : List Rule
  pub misuse : List Row → Option Misuse

abbrev pub row : Text → List Rule → (List Row → Option Misuse) → Subcommand
row name rules misuse = record { name = name; rules = rules; misuse = misuse }

abbrev pub subcommand_app : Subcommand → App
subcommand_app s = fold with_rule (new_app s.name) s.rules

-- the subcommand that the help speaks of, and the program with it
abbrev pub usage_app : Usage → App
usage_app usage = fold (λ app group. with_arguments app group.now) (new_app usage.name.now)
    usage.arguments.now

abbrev pub with_usage : App → Usage → App
with_usage app usage = with_subcommand app (usage_app usage).top

-- of these the subcommand of this name, or all where none has it
abbrev pub has_name : Text → Usage → Bool
has_name name usage = bytes_eq usage.name.now name

abbrev pub usages_named : Text → List Usage → List Usage
usages_named name usages =
    option_map_or (λ usage. usage ∷ []) (find (has_name name) usages) usages

-- of these the one that the second of the words names, behind the program's name, or all
unfoldable pub usages_for : List Text → List Usage → List Usage
usages_for words usages =
    option_map_or (λ name. usages_named name usages) (slice_get words 1) usages

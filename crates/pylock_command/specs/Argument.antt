-- An argument of a subcommand, in clap's terms.
use Rattle.std.specs.Prelude.{List, Some, fold, true}
use Rattle.clap.specs.Words.{App, Rule, Text, new_rule, with_rule}
use Rattle.clap.specs.declared.builder.action.ArgAction.TheVariants.{Append, Set, SetTrue}
use Rattle.pylock_command.specs.declared.argument.Argument.{Argument}
use Rattle.pylock_command.specs.declared.argument.Kind.{Kind}
use Rattle.pylock_command.specs.declared.argument.Kind.TheVariants as kind

-- a text that is known by its place: one that has to be there, or may be left out
abbrev pub text_rule : Text → Rule
text_rule id = record (new_rule id) { required = true }

abbrev pub optional_rule : Text → Rule
optional_rule id = new_rule id

-- texts that are known by their place, of which one has to be there
abbrev pub texts_rule : Text → Rule
texts_rule id = record (text_rule id) { action = Some Append }

-- an option without a text, which stands once at most
abbrev pub flag_rule : Text → Rule
flag_rule name = record (new_rule name) { long = Some name; action = Some SetTrue }

-- an option with a text: one that stands once at most, one that has to be there once, and one that
-- may stand again with another text
abbrev pub single_rule : Text → Rule
single_rule name =
    record (new_rule name) { long = Some name; action = Some Set; value_names = 1 }

abbrev pub needed_rule : Text → Rule
needed_rule name = record (single_rule name) { required = true }

abbrev pub repeated_rule : Text → Rule
repeated_rule name =
    record (new_rule name) { long = Some name; action = Some Append; value_names = 1 }

-- what an argument is to clap
abbrev pub rule_of_kind : Kind → Text → Rule
rule_of_kind kind.Text id = text_rule id
rule_of_kind kind.OptionalText id = optional_rule id
rule_of_kind kind.Texts id = texts_rule id
rule_of_kind kind.Flag id = flag_rule id
rule_of_kind (kind.Single value) id = single_rule id
rule_of_kind (kind.Needed value) id = needed_rule id
rule_of_kind (kind.Repeated value) id = repeated_rule id

abbrev pub argument_rule : Argument → Rule
argument_rule argument = rule_of_kind argument.kind argument.name.now

-- a command that takes this argument too, and one that takes these
abbrev pub with_argument : App → Argument → App
with_argument app argument = with_rule app (argument_rule argument)

abbrev pub with_arguments : App → List Argument → App
with_arguments app arguments = fold with_argument app arguments

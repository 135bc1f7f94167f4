-- The texts of arguments, in clap's terms.
use Rattle.std.specs.Option.{option_map_or}
use Rattle.std.specs.Prelude.{◌≡◌, ◌&&◌, Bool, List, Option, Some, None, codes, false}
use Rattle.std.specs.Prelude.{if◌then◌else◌}
use Rattle.std.specs.Str.{bytes_eq}
use Rattle.clap.specs.Words.{Row, Text, first_of}
use Rattle.pylock_command.specs.declared.misuse.Misuse.{Misuse}
use Rattle.pylock_command.specs.declared.misuse.Misuse.TheVariants.{EditsAndFile, TwoInputs}

-- an argument, by its name, has this text
abbrev pub HasText : List Row → Text → Text → Type 0
HasText rows id text = first_of id rows ≡ Some text

-- an option without a text stands among the words
abbrev pub has_flag : Text → List Row → Bool
has_flag name rows = option_map_or (λ text. bytes_eq text (codes "true")) (first_of name rows) false

-- the path of a file is the word for standard input
abbrev pub is_input : Text → List Row → Bool
is_input id rows = option_map_or (λ path. bytes_eq path (codes "-")) (first_of id rows) false

-- of `select`, which reads its edits there, no file is standard input, and of two files one at most
abbrev pub input_misuse : Text → List Row → Option Misuse
input_misuse id rows = if is_input id rows then Some EditsAndFile else None

abbrev pub inputs_misuse : Text → Text → List Row → Option Misuse
inputs_misuse one other rows =
    if is_input one rows && is_input other rows then Some TwoInputs else None

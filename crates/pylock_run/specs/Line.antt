-- The lines of an input, and what one line asks for.
pub mod Argument
pub mod Commands
pub mod Refusal
use Rattle.std.specs.Prelude.{ℕ, ◌-◌, ◌==◌, ◌++◌, nat_lt, Bool, length, take}
use Rattle.std.specs.Prelude.{List, [], ◌∷◌, if◌then◌else◌, Some, None, Result, Err}
use Rattle.std.specs.List.{before_first, after_first, list_any, ends_with}
use Rattle.std.specs.Str.{is_utf8}
use Rattle.pylock_run.specs.Line.Argument.{is_space}
use Rattle.pylock_run.specs.Line.Commands.{command_after}
use Rattle.pylock_run.specs.declared.line.commands.Command.{Command}
use Rattle.pylock_run.specs.declared.line.refusal.LineRefusal.{LineRefusal}
use Rattle.pylock_run.specs.declared.line.refusal.LineRefusal.TheVariants as refusal

-- the lines of bytes behind this part of the first of them; `last` says which are made of what
-- stands behind the last LF
abbrev pub cut_lines : (last : List ℕ → List (List ℕ)) → (part bytes : List ℕ) → List (List ℕ)
cut_lines last part [] = last part
cut_lines last part (b ∷ bytes) =
    if b == 10 then part ∷ cut_lines last [] bytes else cut_lines last (part ++ b ∷ []) bytes

abbrev pub unless_empty : List ℕ → List (List ℕ)
unless_empty [] = []
unless_empty (b ∷ line) = (b ∷ line) ∷ []

-- The lines of an input, without their LFs: a line ends at LF, and what stands after the last LF is
-- a line where it is not empty.
abbrev pub input_lines : List ℕ → List (List ℕ)
input_lines input = cut_lines unless_empty [] input

-- the complete lines of an input: those whose LF stands in it
abbrev pub complete_lines : List ℕ → List (List ℕ)
complete_lines input = cut_lines (λ rest. []) [] input

-- the line without one CR at its end
abbrev pub without_cr : List ℕ → List ℕ
without_cr line =
    if ends_with (λ a b. a == b) line (13 ∷ []) then take (length line - 1) line else line

abbrev pub is_lf : ℕ → Bool
is_lf b = b == 10

-- The command is the text to the first space, and its argument what follows that space, absent
-- where there is none.
abbrev pub text_command : List ℕ → Result Command LineRefusal
text_command text =
    if list_any is_space text
    then command_after (before_first is_space text) (Some (after_first is_space text))
    else command_after text None

-- the most bytes that a line has before its LF, a CR counted
abbrev pub line_limit : ℕ
line_limit = 1048576

-- what a line asks for, or its first refusal
abbrev pub command_of : List ℕ → Result Command LineRefusal
command_of line =
    if nat_lt line_limit (length line) then Err refusal.Long
    else (if is_utf8 (without_cr line) then text_command (without_cr line) else Err refusal.Text)

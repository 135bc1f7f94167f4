-- The editing of a session byte by byte: what `report` says of the lines, as a run has it in hand
-- after a part of the input.
use Rattle.std.specs.Prelude.{ℕ, ◌+◌, ◌==◌, ◌++◌, ◌||◌, Bool, false, if◌then◌else◌, length, take}
use Rattle.std.specs.Prelude.{min, List, [], ◌∷◌, Result, Ok, Err}
use Rattle.std.specs.Result.{is_err}
use Rattle.pylock_core.specs.Session.State.{State}
use Rattle.pylock_core.specs.Session.Steps.{answer}
use Rattle.pylock_run.specs.declared.line.refusal.LineRefusal.{LineRefusal}
use Rattle.pylock_run.specs.Report.{Shown, is_plan, after_line, state_after, line_text}
use Rattle.pylock_run.specs.Line.{line_limit}

-- what is kept of a line: enough to tell that it is too long
unfoldable pub kept_part : List ℕ → List ℕ
kept_part line = take (line_limit + 1) line

-- the state of the session, whether its last answer was a plan, the number of complete lines,
-- whether one of them was refused, and what is kept of the line that is being read
pub record EditingValue : Type 0 where
  pub state : State
  pub plan : Bool
  pub complete : ℕ
  pub refused : Bool
  pub line : List ℕ

-- before the first byte of the input
abbrev pub start : State → EditingValue
start state = record {
  state = state;
  plan = is_plan (answer state);
  complete = 0;
  refused = false;
  line = [];
}

-- whether the last answer is a plan, after a line
abbrev pub plan_after : Bool → Result State LineRefusal → Bool
plan_after plan (Ok state) = is_plan (answer state)
plan_after plan (Err refused) = plan

-- the line ends
unfoldable pub end_line : EditingValue → EditingValue
end_line at = record {
  state = state_after at.state at.line;
  plan = plan_after at.plan (after_line at.state at.line);
  complete = at.complete + 1;
  refused = at.refused || is_err (after_line at.state at.line);
  line = [];
}

unfoldable pub end_text : Shown → EditingValue → List ℕ
end_text shown at = line_text shown at.state (at.complete + 1) at.line

-- a byte of a line, which is no LF
abbrev pub keep_byte : EditingValue → ℕ → EditingValue
keep_byte at b = record at { line = kept_part (at.line ++ b ∷ []) }

-- a part of the input
abbrev pub editing_after : EditingValue → List ℕ → EditingValue
editing_after at [] = at
editing_after at (b ∷ bs) = editing_after (if b == 10 then end_line at else keep_byte at b) bs

abbrev pub bytes_text : Shown → EditingValue → List ℕ → List ℕ
bytes_text shown at [] = []
bytes_text shown at (b ∷ bs) =
    if b == 10
    then end_text shown at ++ bytes_text shown (end_line at) bs
    else bytes_text shown (keep_byte at b) bs

-- the end of the input, where a line without LF counts if it is not empty
abbrev pub finish : EditingValue → List ℕ → EditingValue
finish at [] = at
finish at (b ∷ line) = end_line at

abbrev pub finish_text : Shown → EditingValue → List ℕ → List ℕ
finish_text shown at [] = []
finish_text shown at (b ∷ line) = end_text shown at

abbrev pub after_input : EditingValue → EditingValue
after_input at = finish at at.line

abbrev pub input_end_text : Shown → EditingValue → List ℕ
input_end_text shown at = finish_text shown at at.line

-- the lines so far, with the one that is being read
abbrev pub lines_begun : EditingValue → ℕ
lines_begun at = at.complete + min 1 (length at.line)

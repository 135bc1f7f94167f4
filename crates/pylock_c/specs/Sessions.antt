-- What a program is told of a session of C as it stands.
use Rattle.std.specs.Prelude.{ℕ, ◌++◌, Bool, decimal, map, List, [], ◌∷◌}
use Rattle.std.specs.Prelude.{Option, Some, Result, Ok}
use Rattle.pytext.specs.Results.{◌>>=◌}
use Rattle.pylock_core.specs.Session.State.{State}
use Rattle.pylock_core.specs.Session.Steps.{answer}
use Rattle.pylock_core.specs.declared.answer.Answer.{Answer}
use Rattle.pylock_core.specs.declared.answer.Answer.TheVariants as answers
use Rattle.pylock_documents.specs.Documents.{fault_detail}
use Rattle.pylock_run.specs.Report.{is_plan}
use Rattle.pylock_run.specs.Text.Field.{fields_text}
use Rattle.pylock_values.specs.Picks.{fault_line, picks_text}
use Rattle.pylock_slots.specs.Sessions.{session_in}
use Rattle.pylock_slots.specs.declared.object.Object.{Object}
use Rattle.pylock_slots.specs.declared.object.Object.TheVariants as kind
use Rattle.pylock_slots.specs.declared.refusal.Refusal.{Refusal}

-- a line for each pick of an answer, or the line of its fault
abbrev pub answer_lines : State → Answer → List ℕ
answer_lines state (answers.Plan picks) = picks_text state picks
answer_lines state (answers.Fault number code) =
    fault_line state number code (fault_detail state number code)

-- these lines, and whether the answer is a plan
abbrev pub picks_in : Option Object → Result (Option Object × Bool) Refusal
picks_in object = do
  session ← session_in object
  Ok (
    Some (kind.Text (answer_lines session.state (answer session.state))),
    is_plan (answer session.state),
  )

-- a record of numbers
abbrev pub numbers_text : List ℕ → List ℕ
numbers_text [] = []
numbers_text (number ∷ numbers) = decimal number ++ fields_text (map decimal numbers)

-- the numbers that were judged last
abbrev pub judged_in : Option Object → Result (Option Object) Refusal
judged_in object = do
  session ← session_in object
  Ok (Some (kind.Text (numbers_text session.judged)))

-- The sessions that a slot keeps: a lock in an environment, edited and answered again.
use Rattle.std.specs.Prelude.{◌≡◌, ℕ, Bool, if◌then◌else◌, length, List, Option, Some}
use Rattle.std.specs.Prelude.{Result, Ok, Err}
use Rattle.std.specs.Result.{result_map_both}
use Rattle.pytext.specs.Results.{◌>>=◌}
use Rattle.pylock_command.specs.declared.form.Form.{Form}
use Rattle.pylock_command.specs.declared.form.Form.TheVariants.{Json, Lines}
use Rattle.pylock_core.specs.Session.Judgement.{Marked, SessionValue, all_numbers, index_of}
use Rattle.pylock_core.specs.Session.Judgement.{numbers_where, readers, touched, verdicts_of}
use Rattle.pylock_core.specs.Session.Names.{names_key}
use Rattle.pylock_core.specs.Session.State.{State, after_names, is_among, with_policies}
use Rattle.pylock_core.specs.Session.Steps.{answer}
use Rattle.pylock_program.specs.Show.{view_shown}
use Rattle.pylock_run.specs.Line.Refusal.{edit_refusal}
use Rattle.pylock_run.specs.Report.{after_command, is_plan}
use Rattle.pylock_command.specs.declared.task.View.{View}
use Rattle.pylock_run.specs.declared.line.commands.Command.{Command}
use Rattle.pylock_run.specs.declared.line.commands.Command.TheVariants as command
use Rattle.pylock_run.specs.declared.line.refusal.LineRefusal.{LineRefusal}
use Rattle.pylock_run.specs.declared.report.opening.OpenError.{OpenError}
use Rattle.pylock_slots.specs.Refusal.{line_refusal, refuse_as}
use Rattle.pylock_slots.specs.declared.kept_session.NamesEdit.{NamesEdit}
use Rattle.pylock_slots.specs.declared.kept_session.NamesEdit.TheVariants as names_edit
use Rattle.pylock_slots.specs.declared.object.Object.{Object}
use Rattle.pylock_slots.specs.declared.object.Object.TheVariants as kind
use Rattle.pylock_slots.specs.declared.refusal.Refusal.{Refusal}
use Rattle.pylock_slots.specs.declared.refusal.Refusal.TheVariants as refusal
use Rattle.pylock_slots.specs.declared.refusal.Refusal.TheVariants.{Memory}

abbrev pub session_in : Option Object → Result SessionValue Refusal
session_in (Some (kind.Session session)) = Ok session
session_in other = Err refusal.Empty

-- the session in a state, where these numbers were judged last
abbrev pub session_at : State → List ℕ → SessionValue
session_at state judged = record {
  state = state;
  verdicts = verdicts_of state;
  index = index_of state;
  judged = judged;
}

-- the session at the start: the head and every entry are judged
abbrev pub started : Result State OpenError → Result Object OpenError
started read =
    result_map_both (λ state. kind.Session (session_at state (all_numbers state)))
    (λ refusal. refusal) read

-- ---- edits

-- the session in a state after an edit that judged these numbers, and how many they are
abbrev pub judged_at : State → List ℕ → SessionValue × ℕ
judged_at state numbers = (session_at state numbers, length numbers)

-- the session after a command, and how many judgements that made
abbrev pub session_after : SessionValue → Command → Result (SessionValue × ℕ) LineRefusal
session_after session command.Show = Ok (session, 0)
session_after session (command.Edit edit) = do
  state ← after_command session.state (command.Edit edit)
  Ok (judged_at state (touched edit session.state))

-- the same after an edit of these names
abbrev pub session_after_names : NamesEdit → List (List ℕ) → SessionValue
    → Result (SessionValue × ℕ) LineRefusal
session_after_names (names_edit.Change change) names session = do
  state ← result_map_both (λ state. state) edit_refusal (after_names change names session.state)
  Ok (judged_at state (readers (Marked (names_key change)) session.state))
session_after_names (names_edit.Policy policy) names session =
    Ok (judged_at
    (record session.state { policies = with_policies session.state.policies names policy })
    (numbers_where (λ entry. is_among names entry.name) session.state.entries))

-- what a slot keeps after a command that was read; a slot with no session is refused first
abbrev pub obeyed_in : Result Command LineRefusal → Option Object
    → Result (Option Object × ℕ) Refusal
obeyed_in read object = do
  session ← session_in object
  after ← refuse_as line_refusal (read >>= session_after session)
  Ok (Some (kind.Session after.0), after.1)

-- the same after an edit of names that was read
abbrev pub edited_in : Result (NamesEdit × List (List ℕ)) LineRefusal → Option Object
    → Result (Option Object × ℕ) Refusal
edited_in read object = do
  session ← session_in object
  after ← refuse_as line_refusal (read >>= λ edit. session_after_names edit.0 edit.1 session)
  Ok (Some (kind.Session after.0), after.1)

-- an edit of what a slot keeps: the object after it and its judgements, or the refusal, which
-- leaves the slot
abbrev pub Counts : Result (Option Object × ℕ) Refusal → Option Object → Option Object
    → Result ℕ Refusal → Type 0
Counts definition old new (Ok judgements) = definition ≡ Ok (new, judgements)
Counts definition old new (Err refusal) =
    (new ≡ old) × ((refusal ≡ Memory → ⊥) → definition ≡ Err refusal)

-- ---- what is told of a session as it stands

-- in lines, or as a JSON document
abbrev pub form_of : Bool → Form
form_of json = if json then Json else Lines

-- what is printed of it, and whether its answer is a plan
abbrev pub shown_in : View → Form → Option Object → Result (Option Object × Bool) Refusal
shown_in view form object = do
  session ← session_in object
  Ok (Some (kind.Text (view_shown view form session.state)), is_plan (answer session.state))

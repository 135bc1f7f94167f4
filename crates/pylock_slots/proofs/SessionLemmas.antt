-- What a call on a session leaves behind.
use Rattle.std.proofs.Common.{◌≡◌, ◌∙◌, ℕ, ap, sym, subst}
use Rattle.std.specs.Prelude.{List, Some, Result, Ok, Err}
use Rattle.pytext.specs.Results.{◌>>=◌}
use Rattle.pylock_core.specs.Session.Judgement.{SessionValue}
use Rattle.pylock_run.specs.declared.line.commands.Command.{Command}
use Rattle.pylock_run.specs.declared.line.refusal.LineRefusal.{LineRefusal}
use Rattle.pylock_run.specs.declared.line.refusal.LineRefusal.TheVariants as line
use Rattle.pylock_slots.specs.Refusal.{line_refusal, refuse_as}
use Rattle.pylock_slots.specs.Sessions.{Counts, edited_in, session_after, session_after_names, obeyed_in}
use Rattle.pylock_slots.specs.declared.kept_session.NamesEdit.{NamesEdit}
use Rattle.pylock_slots.specs.declared.object.Object.{Object}
use Rattle.pylock_slots.specs.declared.object.Object.TheVariants as kind
use Rattle.pylock_slots.specs.declared.refusal.Refusal.{Refusal}

-- a command that was read and is refused
pub refused_command : {definition : Result Command LineRefusal} {object : Object} {command : Command} {session after : SessionValue}
    {refused : LineRefusal} {refusal : Refusal} {result : Result ℕ Refusal} → definition ≡ Ok command → object ≡ kind.Session session
    → after ≡ session → result ≡ Err refusal → refusal ≡ line_refusal refused
    → ((refused ≡ line.Memory → ⊥) → session_after session command ≡ Err refused)
    → Counts (obeyed_in definition (Some object)) (Some object) (Some (kind.Session after)) result
refused_command {definition = definition} {object = object} {command = command} {session = session} {after = after} {refused = refused} read is same fails code gives =
    subst (λ (r : Result ℕ Refusal). Counts (obeyed_in definition (Some object)) (Some object) (Some (kind.Session after)) r) (sym fails) (
      ap Some (ap kind.Session same ∙ sym is),
      λ not. ap (λ d. obeyed_in d (Some object)) read ∙ ap (λ o. obeyed_in (Ok command) (Some o)) is
          ∙ ap (λ e. refuse_as line_refusal e >>= λ after. Ok (Some (kind.Session after.0), after.1)) (gives (λ short. not (code ∙ ap line_refusal short)))
          ∙ ap Err (sym code),
    )

-- the same of names that were read
pub refused_names : {definition : Result (NamesEdit × List (List ℕ)) LineRefusal} {object : Object} {edit : NamesEdit} {names : List (List ℕ)} {session after : SessionValue}
    {refused : LineRefusal} {refusal : Refusal} {result : Result ℕ Refusal} → definition ≡ Ok (edit, names) → object ≡ kind.Session session
    → after ≡ session → result ≡ Err refusal → refusal ≡ line_refusal refused
    → ((refused ≡ line.Memory → ⊥) → session_after_names edit names session ≡ Err refused)
    → Counts (edited_in definition (Some object)) (Some object) (Some (kind.Session after)) result
refused_names {definition = definition} {object = object} {edit = edit} {names = names} {session = session} {after = after} {refused = refused} read is same fails code gives =
    subst (λ (r : Result ℕ Refusal). Counts (edited_in definition (Some object)) (Some object) (Some (kind.Session after)) r) (sym fails) (
      ap Some (ap kind.Session same ∙ sym is),
      λ not. ap (λ d. edited_in d (Some object)) read ∙ ap (λ o. edited_in (Ok (edit, names)) (Some o)) is
          ∙ ap (λ e. refuse_as line_refusal e >>= λ after. Ok (Some (kind.Session after.0), after.1)) (gives (λ short. not (code ∙ ap line_refusal short)))
          ∙ ap Err (sym code),
    )

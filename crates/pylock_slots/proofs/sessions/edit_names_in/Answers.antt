-- Names that are refused.
use Rattle.std.proofs.Common.{subst, List, ℕ, Result}
use Rattle.std.specs.Global.{Global}
use Rattle.std.specs.declared.vec.Vec.{Vec}
use Rattle.std.proofs.lemmas.Result.{err_from_is_err_and}
use Rattle.pytext.specs.Agreement.{Gives}
use Rattle.pylock_run.specs.declared.line.refusal.LineRefusal.{LineRefusal}
use Rattle.pylock_run.specs.declared.line.refusal.LineRefusal.TheVariants as line
use Rattle.pylock_slots.specs.declared.kept_session.NamesEdit.{NamesEdit}
use Rattle.pylock_slots.proofs.SessionLemmas.{refused_names}
use Rattle.pylock_slots.proofs.sessions.edit_names_in.Goals as goal

pub returns-in_err-edit_names-in-Session : goal.returns-in_err-edit_names-in-Session
returns-in_err-edit_names-in-Session c = λ definition gives.
    let error = err_from_is_err_and c.from_residual-in_err-edit_names-in-Session.result c.from_residual-in_err-edit_names-in-Session.ensures.1 in
    let e = c.in_err-edit_names-in-Session.ensures in
    let read = subst (λ (r : Result (NamesEdit × Vec (List ℕ) Global) LineRefusal). Gives line.Memory (λ read. (read.0, read.1.items)) r definition) c.in_ok-edit-in-Session.was gives in
    refused_names read c.in-Session.is e.err error.1 error.2 e.ok

-- A command that is refused.
use Rattle.std.proofs.Common.{subst, Result}
use Rattle.std.proofs.lemmas.Result.{err_from_is_err_and}
use Rattle.pytext.specs.Agreement.{Gives}
use Rattle.pylock_run.specs.declared.line.commands.Command.{Command}
use Rattle.pylock_run.specs.declared.line.refusal.LineRefusal.{LineRefusal}
use Rattle.pylock_run.specs.declared.line.refusal.LineRefusal.TheVariants as line
use Rattle.pylock_slots.proofs.SessionLemmas.{refused_command}
use Rattle.pylock_slots.proofs.sessions.obey_in.Goals as goal

pub returns-in_err-obey_command-in-Session : goal.returns-in_err-obey_command-in-Session
returns-in_err-obey_command-in-Session c = λ definition gives.
    let error = err_from_is_err_and c.from_residual-in_err-obey_command-in-Session.result c.from_residual-in_err-obey_command-in-Session.ensures.1 in
    let e = c.in_err-obey_command-in-Session.ensures in
    let read = subst (λ (r : Result Command LineRefusal). Gives line.Memory (λ c. c) r definition) c.in_ok-command-in-Session.was gives in
    refused_command read c.in-Session.is e.err error.1 error.2 e.ok

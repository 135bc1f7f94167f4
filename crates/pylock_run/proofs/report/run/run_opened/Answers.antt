use Rattle.std.proofs.Common.{rules, subst, Result}
use Rattle.pytext.specs.Agreement.{Gives}
use Rattle.pylock_core.specs.Session.Judgement.{SessionValue}
use Rattle.pylock_run.specs.declared.report.opening.OpenError.{OpenError}
use Rattle.pylock_run.specs.declared.report.opening.OpenError.TheVariants.{Memory}
use Rattle.pylock_run.proofs.ReportLemmas.{stops_at_once, refused_runs}
use Rattle.pylock_run.proofs.report.run.run_opened.Goals as goal

pub returns-in-Err-Memory : goal.returns-in-Err-Memory
returns-in-Err-Memory g c = λ begins gives. stops_at_once _ _ _ _

pub returns-in-Err : goal.returns-in-Err
returns-in-Err g c = λ begins gives.
    let told = subst (λ (o : Result SessionValue OpenError). Gives Memory (λ session. session.state) o begins) c.in-Err.is gives in
    refused_runs (g.P.Printing.shown c.args.printing.now) begins c.in-Err.refusal (g.R.Source.value c.args.reader.now) _ _ _ (told (search rules)) c.write_refusal.ensures

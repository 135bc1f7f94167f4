use Rattle.std.proofs.Common.{◌≡◌, ℕ, List, ◌∙◌, ◌++◌, subst, ap}
use Rattle.std.proofs.lemmas.Result.{err_from_is_err_and}
use Rattle.pylock_run.specs.Stream.{TakesPrefix}
use Rattle.pylock_run.proofs.RunLemmas.{HasCause-map}
use Rattle.pylock_run.proofs.report.run.write_first_answer.Goals as goal

pub returns-in_err-flush-clause-fault : goal.returns-in_err-flush-clause-fault
returns-in_err-flush-clause-fault g c =
    let p = err_from_is_err_and c.from_residual-in_err-flush.result c.from_residual-in_err-flush.ensures.1 in
    rw (p.1, p.2) (HasCause-map _ _ c.in_err-flush.field-0.0 (λ none. absurd none) (λ failed. failed) (λ none. absurd none) (λ none. absurd none) c.in_err-flush.ensures.fault)

pub returns-in_err-flush-clause-prefix : goal.returns-in_err-flush-clause-prefix
returns-in_err-flush-clause-prefix g c =
    let p = err_from_is_err_and c.from_residual-in_err-flush.result c.from_residual-in_err-flush.ensures.1 in
    let first = (g.P.Printing.shown c.args.printing.now).answer c.args.session.state in
    let text : c.start.new.out.items ≡ first =
    ◌∙◌ {A = List ℕ} c.in_ok-editing.ensures.text (ap (λ before. before ++ first) c.requires) in
    rw p.1 (subst (TakesPrefix (g.W.Sink.value c.args.writer.now) (g.W.Sink.value c.flush.new.writer)) text c.in_err-flush.ensures.prefix)

use Rattle.std.proofs.lemmas.List.{take_rest}
use Rattle.std.proofs.lemmas.Result.{err_from_is_err_and}
use Rattle.pylock_run.proofs.WriteLemmas.{Wrote-prefix, Wrote-prefix_same, Wrote-more}
use Rattle.pylock_run.proofs.stream.write_all.Goals as goal

pub returns-in_err-taken-clause-err : goal.returns-in_err-taken-clause-err
returns-in_err-taken-clause-err g c =
    let error = err_from_is_err_and c.from_residual.result c.from_residual.ensures.1 in
    rw error.1 (Wrote-prefix_same _ _ _ _ _ c.loop-done.invariant c.in_err-taken.ensures.taken)

pub returns-then-taken-eq0-clause-err : goal.returns-then-taken-eq0-clause-err
returns-then-taken-eq0-clause-err g c =
    Wrote-prefix _ _ _ _ _ _ _ c.loop-done.invariant (take_rest c.args.text.now c.loop-done.done) c.in_ok-taken.ensures.taken

pub loop-done-preserved : goal.loop-done-preserved
loop-done-preserved g c =
    Wrote-more _ _ _ _ _ _ _ c.loop-done.invariant (take_rest c.args.text.now c.loop-done.done) c.in_ok-taken.ensures.bound c.in_ok-taken.ensures.taken
    (c.in_ok-taken.ensures.counted (λ none. absurd (c.if-taken-eq0.false none)))

use Rattle.std.proofs.lemmas.Result.{err_from_is_err_and}
use Rattle.pylock_run.proofs.RunLemmas.{Edited-more, EditFault-after}
use Rattle.pylock_run.proofs.report.run.feed_all.Goals as goal

pub returns-in_err-feed_next-clause-fault : goal.returns-in_err-feed_next-clause-fault
returns-in_err-feed_next-clause-fault g c =
    let p = err_from_is_err_and c.from_residual.result c.from_residual.ensures.1 in
    rw (p.1, p.2) (EditFault-after _ _ _ _ _ _ _ _ _ _ _ c.in_err-feed_next.field-0.0 c.pieces.invariant c.in_err-feed_next.ensures.fault)

pub pieces-preserved : goal.pieces-preserved
pieces-preserved g c =
    let after = c.in_ok-feed_next.ensures in
    record {
      edited = Edited-more _ _ _ _ _ _ _ _ _ _ _ _ _ c.pieces.invariant.edited after.edited;
      within = after.within;
      empty = after.empty;
    }

pub returns-clause-edited : goal.returns-clause-edited
returns-clause-edited g c =
    let after = c.in_ok-feed_next.ensures in
    (_, Edited-more _ _ _ _ _ _ _ _ _ _ _ _ _ c.pieces.invariant.edited after.edited, after.within)

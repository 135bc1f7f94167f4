use Rattle.pylock_compare.proofs.RowLemmas.{put_more}
use Rattle.pylock_compare.proofs.rows.set_of.Goals as goal

pub loop-text-preserved : goal.loop-text-preserved
loop-text-preserved c =
    put_more _ _ c.args.texts.now c.loop-text.text-index _ _ c.loop-text-test.true c.in_ok-insert.ensures.keys c.loop-text.invariant

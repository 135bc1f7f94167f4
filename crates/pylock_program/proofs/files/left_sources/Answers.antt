use Rattle.pylock_program.proofs.FilesLemmas.{one_left}
use Rattle.pylock_union.specs.Listed.{all_lent}
use Rattle.pylock_program.proofs.files.left_sources.Goals as goal

pub loop-source-preserved : goal.loop-source-preserved
loop-source-preserved c = one_left c.args.options.now c.args.list.now c.loop-source.source-index _ c.loop-source-test.true
    (all_lent c.loop-source.left.items) _ _ c.source-item.result c.source-item.is c.loop-source.invariant c.in_ok-push_left.ensures

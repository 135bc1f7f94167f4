use Rattle.std.proofs.Common.{ℕ, Bor, List}
use Rattle.pylock_diff.specs.Hashes.{value_changes}
use Rattle.pylock_diff.proofs.TextLemmas.{told_more}
use Rattle.pylock_diff.proofs.hashes.push_algorithms.Goals as goal

pub loop-algorithm-preserved : goal.loop-algorithm-preserved
loop-algorithm-preserved c =
    told_more (λ (text : Bor (List ℕ)). text.now) (value_changes c.args.name.now c.args.labels.0.now c.args.labels.1.now) c.args.sides.now c.deref-algorithm-items.result.now c.loop-algorithm.algorithm-index _
    c.old.result.now c.new_values.result.now c.args.changes.now.items c.loop-algorithm.changes.items _
    c.loop-algorithm-test.true c.old.ensures c.new_values.ensures c.in_ok-push_values.ensures c.loop-algorithm.invariant

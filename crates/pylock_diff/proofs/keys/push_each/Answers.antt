use Rattle.pylock_diff.specs.Inner.Lent.{lent_place}
use Rattle.pylock_diff.specs.Keys.{key_changes}
use Rattle.pylock_diff.proofs.TextLemmas.{told_more}
use Rattle.pylock_diff.proofs.keys.push_each.Goals as goal

pub loop-key-preserved : goal.loop-key-preserved
loop-key-preserved c =
    told_more lent_place (key_changes c.args.name.now c.args.told.now) c.args.sides.now c.deref-key-items.result.now c.loop-key.key-index _
    c.old.result.now c.new_values.result.now c.args.changes.now.items c.loop-key.changes.items _
    c.loop-key-test.true c.old.ensures c.new_values.ensures c.in_ok-push_key.ensures c.loop-key.invariant

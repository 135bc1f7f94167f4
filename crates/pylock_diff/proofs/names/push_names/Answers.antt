use Rattle.pylock_diff.specs.Changes.{name_changes}
use Rattle.pylock_diff.specs.Inner.Lent.{lent_item}
use Rattle.pylock_diff.proofs.TextLemmas.{told_more}
use Rattle.pylock_diff.proofs.names.push_names.Goals as goal

pub loop-name-preserved : goal.loop-name-preserved
loop-name-preserved c =
    told_more lent_item name_changes c.args.sides.now c.deref-name-items.result.now c.loop-name.name-index _
    c.old.result.now c.new_values.result.now c.args.changes.now.items c.loop-name.changes.items _
    c.loop-name-test.true c.old.ensures c.new_values.ensures c.in_ok-push_name.ensures c.loop-name.invariant

use Rattle.std.proofs.Common.{◌∙◌, ◌++◌, ap, map}
use Rattle.pylock_core.specs.Session.Picks.{lent_source}
use Rattle.pylock_diff.specs.Item.{ItemValue}
use Rattle.pylock_diff.specs.Sources.{lone_in}
use Rattle.pylock_diff.proofs.KeyLemmas.{lone_more}
use Rattle.pylock_diff.proofs.sources.lone_sources.Goals as goal

pub loop-item-preserved : goal.loop-item-preserved
loop-item-preserved c =
    let others = c.args.others.now in
    let put = c.in_ok-push_lone_of.ensures others (record { versions = c.in_ok-keys_of.ensures; wholes = c.in_ok-keys_of-2.ensures; sources = c.in_ok-sources_of.ensures }) in
    lone_more c.args.items.now others c.loop-item.item-index c.item-item.result _ _ c.loop-item-test.true
    (put ∙ ap (λ (item : ItemValue). map lent_source c.loop-item.list.items ++ lone_in others item) c.item-item.is) c.loop-item.invariant

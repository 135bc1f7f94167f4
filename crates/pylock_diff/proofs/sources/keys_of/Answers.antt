use Rattle.std.proofs.Common.{◌∙◌, false, ap}
use Rattle.pylock_diff.specs.Item.{ItemValue}
use Rattle.pylock_compare.specs.Texts.{are_alike}
use Rattle.pylock_diff.specs.Inner.Others.{key_by}
use Rattle.pylock_compare.proofs.KeyLemmas.{any_grown}
use Rattle.pylock_diff.proofs.sources.keys_of.Goals as goal

pub loop-item-preserved : goal.loop-item-preserved
loop-item-preserved c = λ key.
    any_grown key c.in_ok-whole_key.field-0 c.loop-item.set.keys c.insert.new.self.keys false (λ (item : ItemValue). are_alike key (key_by c.args.with_sources item))
    c.args.items.now c.loop-item.item-index c.item-item.result c.loop-item-test.true c.in_ok-insert.ensures.keys
    (ap (are_alike key) c.in_ok-whole_key.ensures ∙ ap (λ (item : ItemValue). are_alike key (key_by c.args.with_sources item)) c.item-item.is)
    (c.loop-item.invariant key)

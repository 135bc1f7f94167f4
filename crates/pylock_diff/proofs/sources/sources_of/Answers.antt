use Rattle.std.proofs.Common.{◌∙◌, ◌||◌, ap, is_some}
use Rattle.std.specs.BTreeMap.{get}
use Rattle.pylock_compare.specs.Texts.{are_alike, texts_cmp}
use Rattle.pylock_compare.proofs.KeyLemmas.{any_joined}
use Rattle.pylock_diff.specs.Inner.Others.{has_at, holds_at}
use Rattle.pylock_diff.specs.Item.{ItemValue}
use Rattle.pylock_diff.specs.Sources.{condition_key}
use Rattle.pylock_diff.proofs.sources.sources_of.Goals as goal

pub loop-item-preserved : goal.loop-item-preserved
loop-item-preserved c = record {
  conditions = λ condition.
      let is = λ (item : ItemValue). are_alike condition (condition_key item) in
      any_joined _ _ is c.args.items.now c.loop-item.item-index c.item-item.result c.loop-item-test.true
      (c.in_ok-put_item.ensures.conditions condition ∙ ap (λ item. is_some (get texts_cmp c.loop-item.table condition) || is item) c.item-item.is)
      (c.loop-item.invariant.conditions condition);
  sources = λ condition key.
      let has = λ (item : ItemValue). has_at item condition key in
      any_joined _ _ has c.args.items.now c.loop-item.item-index c.item-item.result c.loop-item-test.true
      (c.in_ok-put_item.ensures.sources condition key ∙ ap (λ item. holds_at c.loop-item.table condition key || has item) c.item-item.is)
      (c.loop-item.invariant.sources condition key);
}

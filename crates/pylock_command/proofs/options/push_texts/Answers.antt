use Rattle.std.proofs.Common.{map, sym, append-nil}
use Rattle.pylock_command.specs.PlanOptions.{option_words}
use Rattle.pylock_command.proofs.PlanOptionLemmas.{pushed-all, pushed-more}
use Rattle.pylock_command.proofs.options.push_texts.Goals as goal

pub loop-text-init : goal.loop-text-init
loop-text-init g c = sym (append-nil (map option_words c.args.list.now.items))

pub loop-text-preserved : goal.loop-text-preserved
loop-text-preserved g c =
    pushed-more c.args.name.now (map option_words c.args.list.now.items) c.texts-text-items.result.now c.loop-text.text-index _ c.loop-text.list.items
    c.push.new.self.items c.option.result c.loop-text-test.true c.loop-text.invariant c.in_ok-push.ensures.items (c.requires.named _ _ c.option.ensures)

pub returns : goal.returns
returns g c = pushed-all c.args.name.now _ c.texts-text-items.result.now c.loop-text.text-index _ _ c.loop-text-test.false c.loop-text.invariant c.texts-text-items.ensures

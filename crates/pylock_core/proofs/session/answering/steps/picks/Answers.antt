use Rattle.std.proofs.Common.{◌∙◌, sym, subst, ap}
use Rattle.std.specs.Option.{option_copied}
use Rattle.pylock_core.specs.Inner.Answering.Steps.{numbered}
use Rattle.pylock_core.proofs.Lemmas.Answering.Steps.{Picking, numbered_none, picking_first}
use Rattle.pylock_core.proofs.session.answering.steps.picks.Goals as goal

pub loop-number-init : goal.loop-number-init
loop-number-init c = picking_first c.args.policies.now (numbered c.args.rows.now c.args.numbers.now) c.in_ok-picks.picks.items c.in_ok-picks.ensures.items

pub loop-number-preserved-in_default : goal.loop-number-preserved-in_default
loop-number-preserved-in_default c =
    subst (λ rest. Picking c.args.policies.now (numbered c.args.rows.now c.args.numbers.now) rest c.loop-number.picks.items)
    (numbered_none c.args.rows.now c.args.numbers.now c.loop-number.number-index c.loop-number-test.true (sym c.row_in.ensures ∙ ap option_copied c.in_default.is)) c.loop-number.invariant

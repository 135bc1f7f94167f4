use Rattle.std.proofs.Common.{◌∙◌, ◌<◌, ◌≤◌, arith, sym}
use Rattle.pylock_matrix.proofs.DefaultsLemmas.{least_all, least_none, least_passed, least_taken}
use Rattle.pylock_matrix.proofs.defaults.least_micro.Goals as goal

pub loop-micro-init : goal.loop-micro-init
loop-micro-init c = least_all c.args.set.now c.args.minor

pub returns-then-branch : goal.returns-then-branch
returns-then-branch c =
    let below : c.loop-micro.micro < 100 = omega arith in
    sym (least_taken c.args.set.now c.args.minor c.loop-micro.micro below (sym c.in_ok-is_met.ensures ∙ c.if-branch.true)) ∙ c.loop-micro.invariant

pub loop-micro-preserved : goal.loop-micro-preserved
loop-micro-preserved c =
    let below : c.loop-micro.micro < 100 = omega arith in
    sym (least_passed c.args.set.now c.args.minor c.loop-micro.micro below (sym c.in_ok-is_met.ensures ∙ c.if-branch.false)) ∙ c.loop-micro.invariant

pub returns : goal.returns
returns c =
    let past : 100 ≤ c.loop-micro.micro = omega arith in
    sym (least_none c.args.set.now c.args.minor c.loop-micro.micro past) ∙ c.loop-micro.invariant

use Rattle.std.proofs.Common.{◌≡◌, ◌∙◌, ◌==◌, ap, arith, false, refl, subst, sym, true}
use Rattle.std.proofs.lemmas.Iterator.Splits.{YieldsList-from_str_split}
use Rattle.std.specs.List.{slice_split}
use Rattle.pylock_exports.specs.FileNames.{is_step}
use Rattle.pylock_exports.proofs.StepLemmas.{StepsAt, all_steps, step_on, step_over}
use Rattle.pylock_exports.proofs.file_names.last_step.Goals as goal

pub loop-part-init : goal.loop-part-init
loop-part-init c =
    let path = c.args.path.now in
    let yields = YieldsList-from_str_split 47 path (omega arith) c.split-part-items.ensures.text c.split-part-items.ensures.has_more c.split-part-items.ensures.pattern in
    (slice_split (λ b. b == 47) path, rw c.into_iter-part-iterator.ensures.into_iter_gives yields, refl)

pub loop-part-preserved-then-is_step : goal.loop-part-preserved-then-is_step
loop-part-preserved-then-is_step c =
    let before = c.args.before.now in
    let path = c.args.path.now in
    let is : is_step c.in-Some.part.now ≡ true = ap is_step (sym c.as_bytes.ensures.value) ∙ sym c.is_step.ensures ∙ c.if-is_step.true in
    subst (StepsAt before path c.next.new.self) (sym c.as_bytes-last.ensures.value)
    (step_on before path c.loop-part.part-iterator c.next.new.self c.in-Some.part c.loop-part.last.now c.in-Some.ensures.steps c.loop-part.invariant is)

pub loop-part-preserved : goal.loop-part-preserved
loop-part-preserved c =
    let is : is_step c.in-Some.part.now ≡ false = ap is_step (sym c.as_bytes.ensures.value) ∙ sym c.is_step.ensures ∙ c.if-is_step.false in
    step_over c.args.before.now c.args.path.now c.loop-part.part-iterator c.next.new.self c.in-Some.part c.loop-part.last.now c.in-Some.ensures.steps c.loop-part.invariant is

pub returns : goal.returns
returns c = all_steps c.args.before.now c.args.path.now c.loop-part.part-iterator c.next.new.self c.loop-part.last.now c.in-None.ensures.steps c.loop-part.invariant

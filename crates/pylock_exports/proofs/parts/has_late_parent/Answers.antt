use Rattle.std.proofs.Common.{◌≡◌, ◌∙◌, ◌==◌, ◌&&◌, ap, arith, false, refl, rules, sym}
use Rattle.std.proofs.lemmas.Iterator.Splits.{YieldsList-from_str_split}
use Rattle.std.specs.List.{slice_split}
use Rattle.pylock_exports.specs.Parts.{is_parent}
use Rattle.pylock_exports.proofs.ParentLemmas.{found_part, next_part, no_part, not_late}
use Rattle.pylock_exports.proofs.parts.has_late_parent.Goals as goal

pub loop-part-init : goal.loop-part-init
loop-part-init c =
    let path = c.args.path.now in
    let yields = YieldsList-from_str_split 47 path (omega arith) c.split-part-items.ensures.text c.split-part-items.ensures.has_more c.split-part-items.ensures.pattern in
    (slice_split (λ b. b == 47) path, rw c.into_iter-part-iterator.ensures.into_iter_gives yields, refl)

pub returns-then-is_up : goal.returns-then-is_up
returns-then-is_up c =
    found_part c.args.path.now c.loop-part.part-iterator c.next.new.self c.in-Some.part c.loop-part.is_behind c.in-Some.ensures.steps c.loop-part.invariant
    (search rules) (search rules)

pub loop-part-preserved : goal.loop-part-preserved
loop-part-preserved c =
    let none : (c.loop-part.is_behind && is_parent c.in-Some.part.now) ≡ false =
    ap (λ up. c.loop-part.is_behind && up) (sym c.is_parent-is_up.ensures) ∙ not_late c.loop-part.is_behind c.is_parent-is_up.result c.else-is_behind.either in
    next_part c.args.path.now c.loop-part.part-iterator c.next.new.self c.in-Some.part c.loop-part.is_behind _ c.in-Some.ensures.steps c.loop-part.invariant
    none (search rules)

pub returns : goal.returns
returns c = no_part c.args.path.now c.loop-part.part-iterator c.next.new.self c.loop-part.is_behind c.in-None.ensures.steps c.loop-part.invariant

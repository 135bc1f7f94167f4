use Rattle.std.proofs.Common.{◌≡◌, ◌-◌, arith}
use Rattle.std.proofs.lemmas.Grind.{common_steps}
use Rattle.pylock_compare.specs.Counts.{count_in}
use Rattle.pylock_compare.proofs.PartnerLemmas.{taken_one, untaken}
use Rattle.pylock_compare.proofs.partners.take_one.Goals as goal

pub returns-then-count-eq0-clause-left : goal.returns-then-count-eq0-clause-left
returns-then-count-eq0-clause-left c =
    let none : count_in c.args.left.now c.args.key ≡ 0 = grind (arith, common_steps) in
    untaken c.args.left.now c.args.key none

pub returns-clause-left : goal.returns-clause-left
returns-clause-left c =
    let less : c.unwrap_or-count.result - 1 ≡ count_in c.args.left.now c.args.key - 1 = grind (arith, common_steps) in
    taken_one c.args.left.now c.insert.new.self c.args.key _ c.in_ok-insert.ensures.updates less

use Rattle.std.proofs.Common.{rules, subst}
use Rattle.pylock_program.specs.Sarif.{IsResult}
use Rattle.pylock_program.proofs.EachLemmas.{one_more}
use Rattle.pylock_program.proofs.sarif.results_of.Goals as goal

pub loop-one-preserved : goal.loop-one-preserved
loop-one-preserved c = one_more IsResult c.args.located.now c.loop-one.one-index _ c.loop-one.results.items c.push.new.self.items c.in_ok-result_of.field-0
    c.loop-one-test.true c.loop-one.invariant (search rules)
    (subst (λ l. IsResult l c.in_ok-result_of.field-0) c.one-item.is c.in_ok-result_of.ensures)

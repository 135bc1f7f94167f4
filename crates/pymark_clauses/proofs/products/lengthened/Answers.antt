use Rattle.std.proofs.Common.{arith}
use Rattle.std.proofs.lemmas.List.{length_push}
use Rattle.pymark_clauses.proofs.ClauseLemmas.{lengthened_more}
use Rattle.pymark_clauses.proofs.products.lengthened.Goals as goal

pub loop-clause-preserved : goal.loop-clause-preserved
loop-clause-preserved c =
    let before = c.loop-clause.yielded in (
      lengthened_more c.loop-clause.longer.items before c.push.new.self.items c.in-Some.clause c.extend_from_slice.new.self c.args.literals.now c.loop-clause.invariant.0
          c.in_ok-extend_from_slice.ensures.items c.in_ok-push.ensures.items,
      omega (arith, c.in_ok-push.ensures.len, c.loop-clause.invariant.1, length_push before c.in-Some.clause),
    )

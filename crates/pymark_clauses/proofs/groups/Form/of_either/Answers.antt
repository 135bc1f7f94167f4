use Rattle.pymark_clauses.proofs.ClauseLemmas.{or_of_product, or_of_sum}
use Rattle.pymark_clauses.proofs.GroupLemmas.{found_weaker}
use Rattle.pymark_clauses.proofs.groups.Form.of_either.Goals as goal

pub returns-then-self-clause-tells : goal.returns-then-self-clause-tells
returns-then-self-clause-tells c =
    found_weaker c.appended.result _ _
    (λ clauses all e x y. or_of_sum e c.args.self.now.wanted x y c.args.first.items c.args.second.items clauses.items c.if-self.true all)
    c.appended.ensures.all

pub returns-else-self-clause-tells : goal.returns-else-self-clause-tells
returns-else-self-clause-tells c =
    found_weaker c.multiplied.result _ _
    (λ clauses each e x y. or_of_product e c.args.self.now.wanted x y c.args.first.items c.args.second.items clauses.items c.if-self.false each)
    c.multiplied.ensures.each

use Rattle.pymark_clauses.proofs.ClauseLemmas.{and_of_product, and_of_sum}
use Rattle.pymark_clauses.proofs.GroupLemmas.{found_weaker}
use Rattle.pymark_clauses.proofs.groups.Form.of_both.Goals as goal

pub returns-then-self : goal.returns-then-self
returns-then-self c =
    found_weaker c.multiplied.result _ _
    (λ clauses each e x y. and_of_product e c.args.self.now.wanted x y c.args.first.items c.args.second.items clauses.items c.if-self.true each)
    c.multiplied.ensures.each

pub returns-else-self : goal.returns-else-self
returns-else-self c =
    found_weaker c.appended.result _ _
    (λ clauses all e x y. and_of_sum e c.args.self.now.wanted x y c.args.first.items c.args.second.items clauses.items c.if-self.false all)
    c.appended.ensures.all

use Rattle.std.proofs.Common.{sym, subst}
use Rattle.pywheel_core.specs.Marks.{AreAllMarked, AreMarked}
use Rattle.pywheel_core.proofs.MarksLemmas.{unmarked}
use Rattle.pywheel_core.proofs.tag_list.TagList.rank.Goals as goal

pub returns-then-not-may_have : goal.returns-then-not-may_have
returns-then-not-may_have c =
    let may = c.may_have.ensures in
    let tested = c.if-not-may_have.true in
    let all = subst (λ o. AreAllMarked o c.self.inside.tags.keys) c.in-Some.is c.self.invariant in
    sym (unmarked c.in-Some.marks c.args.tag.now c.args.self.now (subst (AreMarked c.in-Some.marks) c.self.view_is all) (λ m. let yes = may m in absurd cc))

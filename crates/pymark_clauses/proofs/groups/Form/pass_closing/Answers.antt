use Rattle.std.proofs.Common.{ap}
use Rattle.pymark_clauses.proofs.GroupLemmas.{closing_follows, found_of_two}
use Rattle.pymark_clauses.proofs.groups.Form.pass_closing.Goals as goal

pub returns-in-Some-2 : goal.returns-in-Some-2
returns-in-Some-2 c =
    let tells = rw c.in-Some-2.is at c.in_ok-member.ensures.tells in
    found_of_two c.pass_member.result _ _ _
    (λ next longer outer. closing_follows c.args.self.now.wanted c.args.groups next c.pop.new.self.items c.in-Some.group c.in-Some-2.member.items c.in-Some.ensures.items tells longer
    (ap (λ v. v.items) outer))
    c.pass_member.ensures.inner c.pass_member.ensures.outer

use Rattle.pymark_clauses.proofs.groups.Form.with_member.Goals as goal

pub returns-in-Some : goal.returns-in-Some
returns-in-Some c = λ e value more group member.
    let tells = rw c.in-Some.is at c.in_ok-latest.ensures in
    record {
      earlier = group.earlier;
      latest = tells e value.latest more group.latest member;
    }

use Rattle.pymark_clauses.proofs.GroupLemmas.{comparison_follows, found_of_two}
use Rattle.pymark_clauses.proofs.groups.Form.pass.Goals as goal

pub returns-in_ok-of_comparison-in-Comparison : goal.returns-in_ok-of_comparison-in-Comparison
returns-in_ok-of_comparison-in-Comparison c =
    let member = c.in_ok-of_comparison-in-Comparison in
    rw c.in-Comparison.is
    (found_of_two c.pass_member.result _ _ _
    (λ next longer outer. comparison_follows c.args.self.now.wanted c.args.groups next c.in-Comparison.comparison.now member.field-0.items member.ensures longer outer)
    c.pass_member.ensures.inner c.pass_member.ensures.outer)

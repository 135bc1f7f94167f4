use Rattle.std.proofs.Common.{true}
use Rattle.pymark_clauses.proofs.ClauseLemmas.{true_wanted}
use Rattle.pymark_clauses.proofs.groups.Form.behind_or.Goals as goal

pub returns-in_ok-of_constant-in-Some : goal.returns-in_ok-of_constant-in-Some
returns-in_ok-of_constant-in-Some c = λ e value group.
    let wanted = c.args.self.now.wanted in
    let tells = rw c.in-Some.is at c.in_ok-earlier.ensures.tells in
    record {
      earlier = tells e value group;
      latest = c.in_ok-of_constant-in-Some.ensures e wanted true (true_wanted wanted);
    }

use Rattle.std.proofs.Common.{true, false}
use Rattle.pymark_clauses.proofs.ClauseLemmas.{false_wanted, true_wanted}
use Rattle.pymark_clauses.proofs.groups.Form.empty.Goals as goal

pub returns : goal.returns
returns c = λ e.
    let wanted = c.args.self.now.wanted in
    record {
      earlier = c.in_ok-of_constant.ensures e wanted false (false_wanted wanted);
      latest = c.in_ok-of_constant-2.ensures e wanted true (true_wanted wanted);
    }

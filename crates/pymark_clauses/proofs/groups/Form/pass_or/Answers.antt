use Rattle.std.proofs.Common.{refl}
use Rattle.pymark_clauses.proofs.GroupLemmas.{or_follows}
use Rattle.pymark_clauses.proofs.groups.Form.pass_or.Goals as goal

pub returns-in-Some : goal.returns-in-Some
returns-in-Some c =
    let tells = rw c.in-Some.is at c.in_ok-inner.ensures in
    or_follows c.args.self.now.wanted c.args.groups _ tells refl

use Rattle.pymark_clauses.proofs.GroupLemmas.{opening_follows}
use Rattle.pymark_clauses.proofs.groups.Form.pass_opening.Goals as goal

pub returns : goal.returns
returns c =
    opening_follows c.args.self.now.wanted c.args.groups (record { outer = c.push.new.self; inner = c.in_ok-empty.field-0 }) c.in_ok-empty.ensures c.in_ok-push.ensures.items

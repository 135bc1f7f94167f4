use Rattle.pymark_clauses.proofs.GroupLemmas.{found_weaker}
use Rattle.pymark_clauses.proofs.groups.Form.of_group.Goals as goal

pub returns-clause-tells : goal.returns-clause-tells
returns-clause-tells c =
    found_weaker c.of_either.result _ _ (λ clauses tells e value group. tells e value.earlier value.latest group.earlier group.latest) c.of_either.ensures.tells

use Rattle.std.proofs.Common.{◌∙◌, ap, sym}
use Rattle.std.specs.FinSet.{insert}
use Rattle.pyver_core.specs.Name.{normal_name}
use Rattle.pymark_core.proofs.Lemmas.Environment.Names.{normal-put, seen-put}
use Rattle.pymark_core.proofs.names.NameSet.insert.Goals as goal

pub returns-clause-set : goal.returns-clause-set
returns-clause-set c =
    seen-put _ _ _ c.in_ok-insert.ensures.updates
    ∙ (λ i. insert (c.self.view_is i) (c.into_string.ensures.text i))

pub invariant_of-self-2 : goal.invariant_of-self-2
invariant_of-self-2 c =
    let is = c.into_string.ensures.text in
    normal-put _ _ _ (ap normal_name is ∙ c.into_string.ensures.normal ∙ sym is) c.in_ok-insert.ensures.updates c.self.invariant

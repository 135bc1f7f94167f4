use Rattle.std.proofs.Common.{◌∙◌}
use Rattle.std.specs.FinSet.{remove}
use Rattle.pymark_core.proofs.Lemmas.Environment.Names.{normal-taken, seen-taken}
use Rattle.pymark_core.proofs.names.NameSet.remove.Goals as goal

pub returns : goal.returns
returns c =
    seen-taken _ _ c.as_str.result.now c.remove.ensures.updates
    ∙ (λ i. remove (c.self.view_is i) (c.as_str.ensures.text i))

pub invariant_of-self : goal.invariant_of-self
invariant_of-self c = normal-taken _ _ c.as_str.result.now c.remove.ensures.updates c.self.invariant

use Rattle.std.proofs.Common.{◌∙◌, ap}
use Rattle.std.specs.FinSet.{from_list}
use Rattle.pymark_core.proofs.Lemmas.Environment.Names.{seen-clone}
use Rattle.pymark_core.proofs.names.NameSetClone.clone.Goals as goal

pub returns : goal.returns
returns c = record { cases = ap from_list (seen-clone _ _ c.in_ok-names.ensures.cases) ∙ c.self.view_is }

pub invariant_of-result : goal.invariant_of-result
invariant_of-result c = rw (seen-clone _ _ c.in_ok-names.ensures.cases) c.self.invariant

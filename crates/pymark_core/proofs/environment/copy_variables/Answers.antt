use Rattle.std.proofs.Common.{None, arith, sym, ◌∙◌}
use Rattle.std.proofs.lemmas.List.{ext_get_or}
use Rattle.pymark_core.proofs.environment.copy_variables.Goals as goal

pub returns : goal.returns
returns c =
    ext_get_or None c.loop-number.copy c.args.variables.now
    (c.loop-number.invariant.0 ∙ sym c.type_inv.variables)
    (λ k below. c.loop-number.invariant.1 k (omega (arith, below, c.loop-number.invariant.0, c.loop-number-test.false)))

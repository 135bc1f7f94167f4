use Rattle.std.proofs.Common.{arith}
use Rattle.pytoml.proofs.Results.{if_both_ok}
use Rattle.pytoml.proofs.Strings.{escape_on}
use Rattle.pytoml.proofs.basic.piece.Goals as goal

pub returns-then-first-eq92-clause-value : goal.returns-then-first-eq92-clause-value
returns-then-first-eq92-clause-value c =
    if_both_ok c.escape.result _ _ _
    (λ rest escapes within.
    escape_on c.args.s.now rest.now _ _ (omega (arith, c.first.ensures)) (rw c.skip.ensures.rest at escapes) (omega (arith, c.skip.ensures.shorter)))
    c.escape.ensures.value c.escape.ensures.within

use Rattle.std.proofs.Common.{arith, ◌∙◌, sym}
use Rattle.pytoml.proofs.Steps.{past_no_ws, past_one_ws}
use Rattle.pytoml.proofs.text.past_ws.Goals as goal

pub returns-then-first-gt32-clause-rest : goal.returns-then-first-gt32-clause-rest
returns-then-first-gt32-clause-rest c = sym (past_no_ws c.args.s.now (omega (arith, c.first.ensures)))

pub returns-then-byte_at-gt32-clause-rest : goal.returns-then-byte_at-gt32-clause-rest
returns-then-byte_at-gt32-clause-rest c =
    c.skip.ensures.rest ∙ sym (past_one_ws c.args.s.now (omega (arith, c.first-else-first-gt32.ensures)) (omega (arith, c.byte_at.ensures)))

use Rattle.std.proofs.Common.{arith, ◌∙◌, sym}
use Rattle.pytoml.proofs.Steps.{past_no_blank, past_one_blank}
use Rattle.pytoml.proofs.text.past_blank.Goals as goal

pub returns-then-first-gt35-clause-rest : goal.returns-then-first-gt35-clause-rest
returns-then-first-gt35-clause-rest c = sym (past_no_blank c.args.s.now (omega (arith, c.first.ensures)))

pub returns-then-byte_at-gt35-clause-rest : goal.returns-then-byte_at-gt35-clause-rest
returns-then-byte_at-gt35-clause-rest c =
    c.skip.ensures.rest ∙ sym (past_one_blank c.args.s.now (omega (arith, c.first-else-first-gt35.ensures)) (omega (arith, c.byte_at.ensures)))

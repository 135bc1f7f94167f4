use Rattle.std.proofs.Common.{◌∙◌, Err, ap}
use Rattle.pymark_algebra.proofs.ValueLemmas.{refused_as}
use Rattle.pymark_algebra.proofs.text.reads_nothing.Goals as goal
use Rattle.pymark_algebra.proofs.text.reads_nothing.Goals.{in-Err-Syntax, in-Err-Memory, in-Ok, in-Ok-2}

pub returns : goal.returns
returns c = elim c.match-new.branch [
  | in-Err-Syntax w ↦ rw w.result-is (λ _. refused_as c.args.operator c.args.text.now c.new.result c.new.ensures.exact
      (w.in-Err-Syntax.is ∙ ap Err w.in-Err-Syntax.field-0-is))
  | in-Err-Memory w ↦ rw w.result-is tt
  | in-Ok w ↦ rw w.result-is (λ no. absurd cc)
  | in-Ok-2 w ↦ rw w.result-is (λ no. absurd cc)
]

use Rattle.std.proofs.Common.{◌∙◌, refl}
use Rattle.pytoml.proofs.Strings.{run_on}
use Rattle.pytoml.proofs.basic.run.Goals as goal

pub returns-clause-value : goal.returns-clause-value
returns-clause-value c =
    rw (c.split_at.ensures.back) (run_on c.args.s.now c.run_len.result _ _ c.run_len.ensures.plain (c.in_ok-push_str.ensures.bytes ∙ rw (c.split_at.ensures.front) refl))

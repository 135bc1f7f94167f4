use Rattle.std.proofs.Common.{◌∙◌, sym}
use Rattle.pyver_algebra.proofs.LimitLemmas.{past_earlier}
use Rattle.pyver_algebra.proofs.lowest.begins_before.Goals as goal

pub returns-in-Some : goal.returns-in-Some
returns-in-Some c = λ yes v past. past_earlier c.args.begin.now c.in-Some.known.now v (sym c.is_at_or_before.ensures ∙ yes) (rw c.in-Some.is at past)

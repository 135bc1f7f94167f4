use Rattle.pyver_algebra.proofs.FirstTwoLemmas.{one_number}
use Rattle.pyver_algebra.proofs.step.first_numbers.Goals as goal

pub returns-in-len1 : goal.returns-in-len1
returns-in-len1 c = one_number c.args.release.now c.in-len1.len_at_least c.in-len1.len_below

use Rattle.pyver_core.proofs.Lemmas.Version.Order.Zeros.{version_cmp-append_zeros}
use Rattle.pyver_core.proofs.laws.trailing_zeros_are_no_difference.Goals as goal

pub returns : goal.returns
returns c = version_cmp-append_zeros

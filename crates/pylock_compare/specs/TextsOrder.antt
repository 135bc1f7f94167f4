-- The order of lists of texts is a total one.
use Rattle.std.specs.Cmp.{IsTotalOrder}
use Rattle.std.specs.Cmp.Lexicographic.{nat_list_cmp_total, options_total}
use Rattle.std.proofs.lemmas.Cmp.{lists_total}
use Rattle.pylock_compare.specs.Texts.{texts_cmp}

pub texts_total : IsTotalOrder texts_cmp
texts_total = lists_total (options_total nat_list_cmp_total)

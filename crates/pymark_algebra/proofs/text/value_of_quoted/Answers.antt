use Rattle.pymark_algebra.proofs.ValueLemmas.{quoted_in, quoted_not_in}
use Rattle.pymark_algebra.proofs.text.value_of_quoted.Goals as goal

pub returns-in-In : goal.returns-in-In
returns-in-In c = quoted_in c.args.left.now c.args.text.now c.args.comparator _ c.in-In.is c.stands_in.ensures

pub returns-in-NotIn : goal.returns-in-NotIn
returns-in-NotIn c =
    quoted_not_in c.args.left.now c.args.text.now c.args.comparator _ c.in-NotIn.is c.stands_in-in-NotIn.ensures

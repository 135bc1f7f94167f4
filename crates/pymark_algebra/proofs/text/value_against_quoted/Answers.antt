use Rattle.pymark_algebra.proofs.ValueLemmas.{against_by, against_in, against_not_in}
use Rattle.pymark_algebra.proofs.text.value_against_quoted.Goals as goal

pub returns-in-By : goal.returns-in-By
returns-in-By c =
    against_by c.args.text.now c.args.right.now c.args.comparator c.in-By.operator _ c.requires c.in-By.is c.value_of_texts.ensures

pub returns-in-In : goal.returns-in-In
returns-in-In c = against_in c.args.text.now c.args.right.now c.args.comparator _ c.in-In.is c.stands_in.ensures

pub returns-in-NotIn : goal.returns-in-NotIn
returns-in-NotIn c =
    against_not_in c.args.text.now c.args.right.now c.args.comparator _ c.in-NotIn.is c.stands_in-in-NotIn.ensures

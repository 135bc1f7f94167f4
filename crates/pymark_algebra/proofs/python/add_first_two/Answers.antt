use Rattle.pymark_algebra.proofs.PythonLemmas.{follows_first}
use Rattle.pymark_algebra.proofs.python.add_first_two.Goals as goal

pub returns-in-Some : goal.returns-in-Some
returns-in-Some c =
    follows_first c.args.literal.now c.args.bounds.now c.add_first_two.new.self c.in_ok-specifier.field-0 c.in-Some.specifier
    c.add_first_two.result c.requires c.in_ok-specifier.ensures c.in-Some.is c.add_first_two.ensures

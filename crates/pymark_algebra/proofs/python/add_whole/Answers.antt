use Rattle.pymark_algebra.proofs.PythonLemmas.{follows_whole}
use Rattle.pymark_algebra.proofs.python.add_whole.Goals as goal

pub returns-in-Some : goal.returns-in-Some
returns-in-Some c =
    follows_whole c.args.literal.now c.args.bounds.now c.add.new.self c.in_ok-specifier.field-0 c.in-Some.specifier c.add.result
    c.requires c.in_ok-specifier.ensures c.in-Some.is c.add.ensures

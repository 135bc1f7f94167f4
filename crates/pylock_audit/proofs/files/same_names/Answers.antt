use Rattle.std.proofs.Common.{[], rules}
use Rattle.pylock_audit.proofs.NameLemmas.{same_where}
use Rattle.pylock_audit.specs.Entry.{with_names}
use Rattle.pylock_audit.specs.Inner.Names.{Holds}
use Rattle.pylock_audit.proofs.files.same_names.Goals as goal

pub returns : goal.returns
returns c =
    let none : Holds c.new-earlier.result [] = λ name. search rules in
    let wheels = c.in_ok-push_same_names.ensures.list [] none in
    let holds = c.in_ok-push_same_names.ensures.earlier [] none in
    let sdist = same_where c.push_same_names.new.earlier (with_names c.wheels.result.now []) c.args.entry.now.sdist holds in
    search (rules, wheels, sdist)

use Rattle.std.proofs.Common.{◌≡◌, ◌∙◌, ◌++◌, OnOk, ap, false, subst, sym}
use Rattle.pylock_union.specs.Listed.{all_lent}
use Rattle.pylock_program.proofs.FilesLemmas.{whole_lock}
use Rattle.pylock_program.specs.Files.{sources_shown}
use Rattle.pylock_program.specs.Inner.Files.{read_view}
use Rattle.pylock_program.proofs.files.push_lock.Goals as goal

pub returns : goal.returns
returns c = subst (λ list. OnOk c.push_listed.result (c.push_listed.new.out.items ≡ c.args.out.now.items ++ sources_shown c.args.form false list))
    (ap all_lent c.deref.ensures.value ∙ c.in_ok-list.ensures ∙ sym (whole_lock (read_view c.args.lock.now))) c.push_listed.ensures

use Rattle.std.proofs.Common.{Ok, ◌∙◌, ap, refl, rules, subst, sym}
use Rattle.pylock_program.proofs.FilesLemmas.{one_answered, one_refused}
use Rattle.pylock_program.specs.Files.{lock_by}
use Rattle.pylock_program.specs.Inner.Files.{read_view}
use Rattle.pylock_run.specs.Report.Print.{Pushes}
use Rattle.pylock_program.proofs.files.push_files.Goals as goal

pub returns-in_ok-push_lock-in-Ok : goal.returns-in_ok-push_lock-in-Ok
returns-in_ok-push_lock-in-Ok c = subst (λ report. Pushes c.args.out.now.items c.push_lock.new.out.items report (Ok 0))
    (sym (one_answered c.args.form c.args.lock.now (read_view c.in-Ok.lock)
    (ap (λ d. lock_by d c.args.lock.now) (sym c.is_described.ensures) ∙ c.in-Ok.ensures))) (c.in_ok-push_lock-in-Ok.ensures, refl)

pub returns-in-Err : goal.returns-in-Err
returns-in-Err c = subst (λ report. Pushes c.args.out.now.items c.push_refused_lock.new.out.items report c.push_refused_lock.result)
    (sym (one_refused c.args.form c.args.lock.now c.in-Err.error
    (ap (λ d. lock_by d c.args.lock.now) (sym c.is_described.ensures) ∙ c.in-Err.ensures (search rules)))) c.push_refused_lock.ensures

use Rattle.std.proofs.Common.{◌<◌, arith, length, subst, sym, true}
use Rattle.pyver_core.specs.declared.set.specifier.Specifier.{Specifier}
use Rattle.pymark_algebra.specs.Questions.{PythonSays}
use Rattle.pylock_environments.proofs.wanted.Wanted.add_specifiers.Goals as goal

pub loop-specifier-preserved : goal.loop-specifier-preserved
loop-specifier-preserved c = λ e wanted all.
    let below : c.loop-specifier.specifier-index < length c.args.specifiers.now = omega arith in
    c.in_ok-add_specifier.ensures e (c.loop-specifier.invariant e wanted all)
    (subst (λ (s : Specifier). PythonSays e s true) (sym c.specifier-item.is) (all c.loop-specifier.specifier-index c.specifier-item.result below))

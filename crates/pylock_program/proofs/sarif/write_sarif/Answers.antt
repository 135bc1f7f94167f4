use Rattle.std.proofs.Common.{refl, subst, sym}
use Rattle.pylock_program.specs.Each.{AreEach}
use Rattle.pylock_program.specs.Sarif.{IsResult}
use Rattle.pylock_program.proofs.SarifLemmas.{run_printed}
use Rattle.pylock_program.proofs.sarif.write_sarif.Goals as goal

-- the document of the run is printed
pub returns : goal.returns
returns g c = run_printed _ c.args.lock.1.now c.args.found.now _ _ _ _ _ c.in_ok-located.located.items c.print_run.ensures refl c.in_ok-located.ensures
    (subst (λ results. AreEach IsResult c.in_ok-located.located.items results) (sym c.deref-2.ensures.value)
    (subst (λ located. AreEach IsResult located c.in_ok-results.results.items) c.deref.ensures.value c.in_ok-results.ensures))

-- The document of a run.
use Rattle.std.proofs.Common.{◌≡◌, ◌⊎◌, inl, inr, ℕ, List, Result, Err}
use Rattle.pylock_audit.specs.Finding.{LockFindingValue}
use Rattle.pylock_run.specs.Report.Print.{Prints}
use Rattle.pylock_run.specs.Stream.{SinkValue}
use Rattle.pylock_run.specs.declared.report.fault.RunFault.{RunFault}
use Rattle.pylock_run.specs.declared.report.fault.RunFault.TheVariants as fault
use Rattle.pylock_sarif.specs.declared.run.Run.{Run}
use Rattle.pylock_program.specs.Audit.{EndsUnwritten}
use Rattle.pylock_program.specs.Each.{AreEach}
use Rattle.pylock_program.specs.Located.{AreLocated}
use Rattle.pylock_program.specs.Sarif.{IsResult, PrintsSarif, run_report}
use Rattle.pylock_program.specs.declared.located.Located.{Located}

module _ (path bytes : List ℕ) (found : List LockFindingValue) (status : ℕ) (sink sink' : SinkValue) (result : Result ℕ RunFault) where
  abbrev Ends : Type 0
  Ends = PrintsSarif path bytes found status sink sink' result ⊎ EndsUnwritten sink sink' result

  pub run_printed : (run : Run) (located : List Located) → Prints (run_report run status) sink sink' result → run.lock.now ≡ path
      → AreLocated bytes found located → AreEach IsResult located run.results.now → Ends
  run_printed run located prints lock are results =
      inl (record { run = run; lock = lock; located = located; are_located = are; results = results; prints = prints })

  pub none_printed : result ≡ Err fault.Memory → sink' ≡ sink → Ends
  none_printed memory same = inr (memory, same)

pub ruleset sarifs = (run_printed, none_printed)

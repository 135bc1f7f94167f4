-- What is printed of a project and of a lock on each target, from what was read once.
use Rattle.std.proofs.Common.{◌≡◌, ◌⊎◌, inl, inr, ℕ, Bool, true, false, List, [], None, Some, Result, Ok, Err, refl, subst, sym}
use Rattle.pylock_check.specs.Head.{AreHeadDifferences}
use Rattle.pylock_check.specs.declared.difference.Difference.{Difference}
use Rattle.pylock_command.specs.declared.form.Form.{Form}
use Rattle.pylock_command.specs.declared.task.MatrixQuestion.{MatrixQuestion}
use Rattle.pylock_run.specs.Report.Print.{Prints}
use Rattle.pylock_run.specs.Stream.{SinkValue}
use Rattle.pylock_run.specs.declared.report.fault.RunFault.{RunFault}
use Rattle.pylock_run.specs.declared.report.fault.RunFault.TheVariants as fault
use Rattle.pylock_program.proofs.OpeningLemmas.{other}
use Rattle.pylock_program.specs.Audit.{EndsUnwritten}
use Rattle.pylock_program.specs.CheckMatrix.{AreFromHead, Begun, PrintsTargets, checks_of, checks_report, targets_report}
use Rattle.pylock_program.specs.Inner.CheckMatrix.{PrintsChecks}
use Rattle.pylock_program.specs.Refusal.{PrintsTelling, is_memory, out_of_memory, refusal_report}
use Rattle.pylock_program.specs.declared.refusal.Cause.{Cause}

-- ---- beside the targets

module _ (form : Form) (asked : MatrixQuestion) (begun : Begun) (sink sink' : SinkValue) (result : Result ℕ RunFault) where
  abbrev Beside : Type 0
  Beside = PrintsChecks form asked begun sink sink' result ⊎ EndsUnwritten sink sink' result

  pub all_printed : (of_head : List Difference) → AreHeadDifferences begun.1 begun.0.0.head of_head
      → Prints (checks_report form of_head (checks_of asked begun)) sink sink' result → Beside
  all_printed of_head are prints = inl (record { of_head = of_head; are_of_head = are; prints = prints })

  pub none_printed : result ≡ Err fault.Memory → sink' ≡ sink → Beside
  none_printed memory same = inr (memory, same)

pub ruleset besides = (all_printed, none_printed)

-- ---- of what was read

module _ (form : Form) (asked : MatrixQuestion) (opened : Result Begun Cause) (sink sink' : SinkValue) (result : Result ℕ RunFault) where
  abbrev Ends : Type 0
  Ends = PrintsTargets form asked opened sink sink' result ⊎ EndsUnwritten sink sink' result

  pub told : (begun : Begun) → opened ≡ Ok begun
      → (PrintsChecks form asked begun sink sink' result ⊎ EndsUnwritten sink sink' result) → Ends
  told begun is (inl beside) = inl (record {
    of_head = beside.of_head;
    are_of_head = subst (λ o. AreFromHead o beside.of_head) (sym is) beside.are_of_head;
    prints = (None, subst (λ o. Prints (targets_report form asked beside.of_head None o) sink sink' result) (sym is) beside.prints);
  })
  told begun is (inr unwritten) = inr unwritten

  pub refuses : (because : Cause) → PrintsTelling (λ diagnostic. refusal_report (Some form) diagnostic because) sink sink' result
      → (is_memory because ≡ true → (result ≡ Err fault.Memory) × (sink' ≡ sink))
      → ((because ≡ out_of_memory → ⊥) → opened ≡ Err because) → Ends
  refuses because printed memory gives = by (is_memory because) refl
    where
      by : (b : Bool) → is_memory because ≡ b → Ends
      by true is = inr (memory is)
      by false not =
          let same = gives (other because not) in
          inl (record {
            of_head = [];
            are_of_head = subst (λ o. AreFromHead o []) (sym same) refl;
            prints = (printed.0, subst (λ o. Prints (targets_report form asked [] printed.0 o) sink sink' result) (sym same) printed.1);
          })

pub ruleset checks = (told, refuses)

-- What is printed of a project and of a session, from what was read once.
use Rattle.std.proofs.Common.{◌≡◌, ◌⊎◌, inl, inr, ℕ, Bool, true, false, List, [], None, Some, Result, Ok, Err, refl, subst, sym}
use Rattle.pylock_check.specs.Head.{AreHeadDifferences}
use Rattle.pylock_check.specs.Project.{ProjectValue}
use Rattle.pylock_check.specs.declared.difference.Difference.{Difference}
use Rattle.pylock_command.specs.declared.task.CheckQuestion.{CheckQuestion}
use Rattle.pylock_core.specs.Session.State.{State}
use Rattle.pylock_core.specs.Session.Steps.{answer}
use Rattle.pylock_run.specs.Report.Print.{Prints}
use Rattle.pylock_run.specs.Stream.{SinkValue}
use Rattle.pylock_run.specs.declared.report.fault.RunFault.{RunFault}
use Rattle.pylock_run.specs.declared.report.fault.RunFault.TheVariants as fault
use Rattle.pylock_program.proofs.OpeningLemmas.{other}
use Rattle.pylock_program.specs.Audit.{EndsUnwritten}
use Rattle.pylock_program.specs.Check.{AreFromHead, PrintsCheck, answer_check, check_report}
use Rattle.pylock_program.specs.Inner.Check.{PrintsBeside}
use Rattle.pylock_program.specs.Refusal.{PrintsTelling, is_memory, out_of_memory, refusal_report}
use Rattle.pylock_program.specs.declared.refusal.Cause.{Cause}

-- ---- beside a session

module _ (asked : CheckQuestion) (project : ProjectValue) (state : State) (sink sink' : SinkValue) (result : Result ℕ RunFault) where
  abbrev Beside : Type 0
  Beside = PrintsBeside asked project state sink sink' result ⊎ EndsUnwritten sink sink' result

  pub all_printed : (of_head : List Difference) → AreHeadDifferences project state.head of_head
      → Prints (answer_check asked of_head project state (answer state)) sink sink' result → Beside
  all_printed of_head are prints = inl (record { of_head = of_head; are_of_head = are; prints = prints })

  pub none_printed : result ≡ Err fault.Memory → sink' ≡ sink → Beside
  none_printed memory same = inr (memory, same)

pub ruleset besides = (all_printed, none_printed)

-- ---- of what was read

module _ (asked : CheckQuestion) (opened : Result (State × ProjectValue) Cause) (sink sink' : SinkValue) (result : Result ℕ RunFault) where
  abbrev Ends : Type 0
  Ends = PrintsCheck asked opened sink sink' result ⊎ EndsUnwritten sink sink' result

  pub told : (state : State) (project : ProjectValue) → opened ≡ Ok (state, project)
      → (PrintsBeside asked project state sink sink' result ⊎ EndsUnwritten sink sink' result) → Ends
  told state project is (inl beside) = inl (record {
    of_head = beside.of_head;
    are_of_head = subst (λ o. AreFromHead o beside.of_head) (sym is) beside.are_of_head;
    prints = (None, subst (λ o. Prints (check_report asked beside.of_head None o) sink sink' result) (sym is) beside.prints);
  })
  told state project is (inr unwritten) = inr unwritten

  pub refuses : (because : Cause) → PrintsTelling (λ diagnostic. refusal_report (Some asked.form) diagnostic because) sink sink' result
      → (is_memory because ≡ true → (result ≡ Err fault.Memory) × (sink' ≡ sink))
      → ((because ≡ out_of_memory → ⊥) → opened ≡ Err because) → Ends
  refuses because printed memory gives = by (is_memory because) refl
    where
      by : (b : Bool) → is_memory because ≡ b → Ends
      by true is = inr (memory is)
      by false not =
          let same = gives (other because not) in
          inl (record {
            of_head = [];
            are_of_head = subst (λ o. AreFromHead o []) (sym same) refl;
            prints = (printed.0, subst (λ o. Prints (check_report asked [] printed.0 o) sink sink' result) (sym same) printed.1);
          })

pub ruleset checks = (told, refuses)

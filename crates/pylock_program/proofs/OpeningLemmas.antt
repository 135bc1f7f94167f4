-- What becomes of a lock that is taken strictly, and of a refusal that is printed.
use Rattle.std.proofs.Common.{◌≡◌, ℕ, Bool, true, false, Option, None, Some, List, [], ◌∷◌, Result, Ok, Err, ◌∙◌, refl, sym, ap, subst}
use Rattle.std.proofs.lemmas.Bool.{false≢true}
use Rattle.std.specs.Prelude.{◌≢◌}
use Rattle.std.specs.Result.{is_err, result_map_both, result_unwrap_or}
use Rattle.pylock_audit.specs.Finding.{LockFindingValue}
use Rattle.pylock_audit.specs.Strict.{strict_findings_of, strict_lock_of, unless_found}
use Rattle.pylock_audit.specs.declared.strict.StrictError.{StrictError}
use Rattle.pylock_audit.specs.declared.strict.StrictError.TheVariants as strict
use Rattle.pylock_command.specs.declared.form.Form.{Form}
use Rattle.pylock_command.specs.declared.task.Question.{Question}
use Rattle.pylock_core.specs.Session.State.{State}
use Rattle.pylock_messages.specs.Diagnostic.{DiagnosticValue}
use Rattle.pylock_readers.specs.Environment.{EnvironmentRead}
use Rattle.pylock_readers.specs.Lock.{LockValue}
use Rattle.pylock_readers.specs.Lock.Reading.{lock_of}
use Rattle.pylock_readers.specs.declared.error.LockError.{LockError}
use Rattle.pylock_run.proofs.ReportLemmas.{stops_at_once}
use Rattle.pylock_run.proofs.WriteLemmas.{prefix_none}
use Rattle.pylock_run.specs.Report.{Report, refuse_as, state_in, state_on}
use Rattle.pylock_run.specs.Report.Print.{Prints}
use Rattle.pylock_run.specs.Report.Run.{IsRunShown}
use Rattle.pylock_run.specs.Stream.{SinkValue, SourceValue}
use Rattle.pylock_run.specs.declared.report.fault.RunFault.{RunFault}
use Rattle.pylock_run.specs.declared.report.fault.RunFault.TheVariants as fault
use Rattle.pylock_run.specs.declared.report.opening.OpenError.{OpenError}
use Rattle.pylock_run.specs.declared.report.opening.OpenError.TheVariants as refusal
use Rattle.pytext.specs.Results.{◌>>=◌}
use Rattle.pylock_program.specs.Opening.{chosen_state, open_unless, strict_state}
use Rattle.pylock_program.specs.Program.{IsRunOn}
use Rattle.pylock_program.specs.Refusal.{PrintsTelling, cause_report, cause_status, is_memory, out_of_memory, refusal_report, report_or_refusal, silence}
use Rattle.pylock_program.specs.Show.{output_form, output_report, question_report, run_shown, with_strict}
use Rattle.pylock_program.specs.declared.opening.Unopened.{Unopened}
use Rattle.pylock_program.specs.declared.opening.Unopened.TheVariants.{Findings, Refused}
use Rattle.pylock_program.specs.declared.refusal.Cause.{Cause}
use Rattle.pylock_program.specs.declared.refusal.Cause.TheVariants as cause

-- the session on a lock that was read strictly, or why there is none
abbrev pub opened_from : (LockValue → Result State OpenError) → Result LockValue StrictError → Result State Unopened
opened_from starts (Ok lock) = result_map_both (λ state. state) Refused (starts lock)
opened_from starts (Err (strict.Lock error)) = Err (Refused (refusal.Lock error))
opened_from starts (Err (strict.Findings found)) = Err (Findings found)
opened_from starts (Err strict.Memory) = Err (Refused refusal.Memory)

pub strictly_opened : (lock : List ℕ) (environment : EnvironmentRead) → strict_state lock environment ≡ opened_from (state_on environment) (strict_lock_of lock)
unfolding state_in
strictly_opened lock environment = by (strict_findings_of lock) (lock_of lock)
  where
    by : (found : List LockFindingValue) (read : Result LockValue LockError)
        → open_unless found (refuse_as refusal.Lock read >>= state_on environment)
        ≡ opened_from (state_on environment) (unless_found found (result_map_both (λ l. l) strict.Lock read))
    by [] (Ok l) = refl
    by [] (Err e) = refl
    by (one ∷ others) (Ok l) = refl
    by (one ∷ others) (Err e) = refl

-- ---- a refusal that is printed

-- a cause that isn't memory
pub other : (because : Cause) → is_memory because ≡ false → because ≡ out_of_memory → ⊥
other because not is = false≢true (sym not ∙ ap is_memory is)

-- memory was refused before anything was written
pub nothing_printed : (report : Option DiagnosticValue → Report) (sink sink' : SinkValue) (result : Result ℕ RunFault)
    → result ≡ Err fault.Memory → sink' ≡ sink → PrintsTelling report sink sink' result
nothing_printed report sink sink' result memory same = subst (λ r. PrintsTelling report sink sink' r) (sym memory)
    (subst (λ s. PrintsTelling report sink s (Err fault.Memory)) (sym same)
    (None, record { text = tt; status = tt; counted = tt; prefix = prefix_none sink _; fault = refl }))

pub nothing_written : (report : Report) (sink sink' : SinkValue) (result : Result ℕ RunFault)
    → result ≡ Err fault.Memory → sink' ≡ sink → Prints report sink sink' result
nothing_written report sink sink' result memory same = subst (λ r. Prints report sink sink' r) (sym memory)
    (subst (λ s. Prints report sink s (Err fault.Memory)) (sym same)
    (record { text = tt; status = tt; counted = tt; prefix = prefix_none sink _; fault = refl }))

module _ (form : Option Form) (because : Cause) (sink sink' : SinkValue) (result : Result ℕ RunFault) where
  pub told_nothing : form ≡ None → Prints (silence (cause_status because)) sink sink' result
      → PrintsTelling (λ diagnostic. refusal_report form diagnostic because) sink sink' result
  told_nothing none prints = subst (λ f. PrintsTelling (λ diagnostic. refusal_report f diagnostic because) sink sink' result) (sym none) (None, prints)

  pub told_in_form : (shown : Form) → form ≡ Some shown → PrintsTelling (λ diagnostic. cause_report shown diagnostic because) sink sink' result
      → PrintsTelling (λ diagnostic. refusal_report form diagnostic because) sink sink' result
  told_in_form shown some prints = subst (λ f. PrintsTelling (λ diagnostic. refusal_report f diagnostic because) sink sink' result) (sym some) prints

pub ruleset refusals = (told_nothing, told_in_form)

-- what is printed of a refusal is what is printed in place of the answer
pub refused : {V : Type 0} (form given : Option Form) (report : V → Report) (definition : Result V Cause) (because : Cause)
    (sink sink' : SinkValue) (result : Result ℕ RunFault) → given ≡ form
    → PrintsTelling (λ diagnostic. refusal_report given diagnostic because) sink sink' result
    → (is_memory because ≡ true → (result ≡ Err fault.Memory) × (sink' ≡ sink))
    → ((because ≡ out_of_memory → ⊥) → definition ≡ Err because)
    → PrintsTelling (λ diagnostic. report_or_refusal form diagnostic report definition) sink sink' result
refused form given report definition because sink sink' result same prints memory gives = by (is_memory because) refl
  where
    by : (b : Bool) → is_memory because ≡ b → PrintsTelling (λ diagnostic. report_or_refusal form diagnostic report definition) sink sink' result
    by false not = subst (λ d. PrintsTelling (λ diagnostic. report_or_refusal form diagnostic report d) sink sink' result)
        (sym (gives (other because not)))
        (subst (λ f. PrintsTelling (λ diagnostic. refusal_report f diagnostic because) sink sink' result) same prints)
    by true is = nothing_printed _ sink sink' result (memory is).0 (memory is).1

-- ---- runs

module _ (form : Form) (opened : Result State Unopened)
    (source source' : SourceValue) (sink sink' : SinkValue) (result : Result ℕ RunFault) where
  abbrev RunOn : Result State Unopened → Type 0
  RunOn begins = IsRunOn form begins source source' sink sink' result

  abbrev as_caused : Result State Unopened → Result State Cause
  as_caused begins = result_map_both (λ state. state) cause.Unopened begins

  abbrev cause_in : Cause → Result State Cause → Cause
  cause_in because (Ok state) = because
  cause_in because (Err caused) = caused

  memory_runs : (begins : Result State Unopened) → IsRunOn form begins source source sink sink (Err fault.Memory)
  memory_runs (Ok state) = stops_at_once (run_shown form) (Ok state) source sink
  memory_runs (Err unopened) = (nothing_printed _ sink sink (Err fault.Memory) refl refl, refl)

  pub session_runs : (state : State) → as_caused opened ≡ Ok state
      → IsRunShown (run_shown form) (Ok state) source source' sink sink' result → RunOn opened
  session_runs state is run = by opened is
    where
      by : (begins : Result State Unopened) → as_caused begins ≡ Ok state → RunOn begins
      by (Ok begins) same = subst (λ s. RunOn (Ok s)) (sym (ap (λ r. result_unwrap_or r begins) same)) run
      by (Err unopened) same = absurd (false≢true (sym (ap is_err same)))

  pub refused_runs : (because : Cause) → PrintsTelling (λ diagnostic. refusal_report (Some form) diagnostic because) sink sink' result
      → (is_memory because ≡ true → (result ≡ Err fault.Memory) × (sink' ≡ sink))
      → ((because ≡ out_of_memory → ⊥) → as_caused opened ≡ Err because) → source' ≡ source → RunOn opened
  refused_runs because prints memory gives unread = by opened (is_memory because) refl gives
    where
      by : (begins : Result State Unopened) (b : Bool) → is_memory because ≡ b → ((because ≡ out_of_memory → ⊥) → as_caused begins ≡ Err because) → RunOn begins
      by begins true is given = subst (λ r. IsRunOn form begins source source' sink sink' r) (sym (memory is).0)
          (subst (λ s. IsRunOn form begins source source' sink s (Err fault.Memory)) (sym (memory is).1)
          (subst (λ s. IsRunOn form begins source s sink sink (Err fault.Memory)) (sym unread) (memory_runs begins)))
      by (Ok state) false not given = absurd (false≢true (ap is_err (given (other because not))))
      by (Err unopened) false not given = (
        subst (λ c. PrintsTelling (λ diagnostic. refusal_report (Some form) diagnostic c) sink sink' result)
            (sym (ap (cause_in because) (given (other because not)))) prints,
        unread,
      )

pub ruleset runs = (session_runs, refused_runs)

-- ---- a strict plan is the plan

module _ (question : Question) (diagnostic : Option DiagnosticValue) (lock : List ℕ) (environment : EnvironmentRead) where
  abbrev report_found : List LockFindingValue → Report
  report_found found =
      report_or_refusal (output_form question.output) diagnostic (output_report question.options.items question.output lock)
      (result_map_both (λ state. state) cause.Unopened (open_unless found (state_in lock environment)) >>= chosen_state question.options.items)

  pub taken_plan : strict_findings_of lock ≡ []
      → question_report (with_strict true question) diagnostic lock environment ≡ question_report (with_strict false question) diagnostic lock environment
  taken_plan none = ap report_found none

  refused_status : (form : Option Form) (found : List LockFindingValue)
      → (refusal_report form diagnostic (cause.Unopened (Findings found))).status ≡ 2
  refused_status None found = refl
  refused_status (Some form) found = refl

  answered : (found : List LockFindingValue) → (report_found found).status ≢ 2 → report_found found ≡ report_found []
  answered [] differs = refl
  answered (one ∷ others) differs = absurd (differs (refused_status (output_form question.output) (one ∷ others)))

  pub answered_plan : (question_report (with_strict true question) diagnostic lock environment).status ≢ 2
      → question_report (with_strict true question) diagnostic lock environment ≡ question_report (with_strict false question) diagnostic lock environment
  answered_plan differs = answered (strict_findings_of lock) differs

pub ruleset laws = (taken_plan, answered_plan)

-- What is printed of a lock and of what is asked besides.
use Rattle.std.proofs.Common.{◌≡◌, ◌⊎◌, inl, inr, ℕ, Bool, true, false, List, [], None, Some, Option, Result, Ok, Err, refl, subst, sym}
use Rattle.pylock_advisories.specs.Advisory.{AdvisoryValue}
use Rattle.pylock_audit.specs.Finding.{LockFindingValue}
use Rattle.pylock_command.specs.declared.form.Form.{Form}
use Rattle.pylock_command.specs.declared.task.AuditOutput.{AuditOutput}
use Rattle.pylock_command.specs.declared.task.AuditQuestion.{AuditQuestion}
use Rattle.pylock_findings.specs.All.{AreAll}
use Rattle.pylock_findings.specs.Policy.{PolicyValue, counted}
use Rattle.pylock_run.specs.Report.Print.{Prints}
use Rattle.pylock_run.specs.Stream.{SinkValue}
use Rattle.pylock_run.specs.declared.report.fault.RunFault.{RunFault}
use Rattle.pylock_run.specs.declared.report.fault.RunFault.TheVariants as fault
use Rattle.pylock_program.proofs.OpeningLemmas.{other}
use Rattle.pylock_program.specs.Audit.{AuditValue, EndsUnwritten, PrintsAudit, PrintsCounted, PrintsFound, PrintsLocated, asked_hosts, asks_environments, audit_form, document_report}
use Rattle.pylock_program.specs.Located.{AreLocated}
use Rattle.pylock_program.specs.Refusal.{PrintsTelling, is_memory, out_of_memory, refusal_report}
use Rattle.pylock_program.specs.declared.located.Located.{Located}
use Rattle.pylock_program.specs.declared.refusal.Cause.{Cause}

-- ---- of all that is found

module _ (asked : AuditQuestion) (bytes : List ℕ) (opened : AuditValue) (sink sink' : SinkValue) (result : Result ℕ RunFault) where
  abbrev Found : Type 0
  Found = PrintsFound asked bytes opened sink sink' result ⊎ EndsUnwritten sink sink' result

  pub found_printed : (all : List LockFindingValue) (told : List LockFindingValue × ℕ)
      → AreAll (asks_environments asked opened.settings) opened.advisories (asked_hosts asked opened.settings) opened.lock opened.found all
      → told ≡ counted opened.policy all
      → (PrintsCounted asked.output asked.lock.now bytes opened.policy told sink sink' result ⊎ EndsUnwritten sink sink' result) → Found
  found_printed all told are same (inl prints) = inl (record {
    all = all;
    are_all = are;
    prints = subst (λ t. PrintsCounted asked.output asked.lock.now bytes opened.policy t sink sink' result) same prints;
  })
  found_printed all told are same (inr unwritten) = inr unwritten

  pub none_printed : result ≡ Err fault.Memory → sink' ≡ sink → Found
  none_printed memory same = inr (memory, same)

pub ruleset founds = (found_printed, none_printed)

-- ---- of those that count, at their places

module _ (bytes : List ℕ) (found : List LockFindingValue) (ignored status : ℕ) (sink sink' : SinkValue) (result : Result ℕ RunFault) where
  abbrev At : Type 0
  At = PrintsLocated bytes found ignored status sink sink' result ⊎ EndsUnwritten sink sink' result

  pub located_printed : (located : List Located) → AreLocated bytes found located
      → Prints (document_report ignored status located) sink sink' result → At
  located_printed located are prints = inl (record { located = located; are_located = are; prints = prints })

  pub no_place : result ≡ Err fault.Memory → sink' ≡ sink → At
  no_place memory same = inr (memory, same)

pub ruleset locateds = (located_printed, no_place)

-- ---- of what was read

module _ (asked : AuditQuestion) (bytes : List ℕ) (definition : Result AuditValue Cause) (sink sink' : SinkValue) (result : Result ℕ RunFault) where
  abbrev Ends : Type 0
  Ends = PrintsAudit asked bytes definition sink sink' result ⊎ EndsUnwritten sink sink' result

  pub told : (opened : AuditValue) → definition ≡ Ok opened
      → (PrintsFound asked bytes opened sink sink' result ⊎ EndsUnwritten sink sink' result) → Ends
  told opened is (inl found) = inl (subst (λ d. PrintsAudit asked bytes d sink sink' result) (sym is) found)
  told opened is (inr unwritten) = inr unwritten

  pub refuses : (because : Cause) (form : Option Form) → form ≡ audit_form asked.output
      → PrintsTelling (λ diagnostic. refusal_report form diagnostic because) sink sink' result
      → (is_memory because ≡ true → (result ≡ Err fault.Memory) × (sink' ≡ sink))
      → ((because ≡ out_of_memory → ⊥) → definition ≡ Err because) → Ends
  refuses because form same printed memory gives = by (is_memory because) refl
    where
      by : (b : Bool) → is_memory because ≡ b → Ends
      by true is = inr (memory is)
      by false not = inl (subst (λ d. PrintsAudit asked bytes d sink sink' result) (sym (gives (other because not)))
          (subst (λ f. PrintsTelling (λ diagnostic. refusal_report f diagnostic because) sink sink' result) same printed))

pub ruleset audits = (told, refuses)

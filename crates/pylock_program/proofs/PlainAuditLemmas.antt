-- What `audit` prints where nothing is asked besides.
use Rattle.std.proofs.Common.{◌≡◌, ◌∙◌, ◌++◌, ◌||◌, ℕ, Bool, true, false, cond, List, [], ◌∷◌, None, Some, Result, Ok, Err, ap, ap₂, append-nil, codes, decimal, filter, flat_map, length, map, not, option_map, refl, subst, sym}
use Rattle.std.specs.List.{list_any}
use Rattle.std.specs.Option.{option_copied, option_map_or}
use Rattle.std.specs.Result.{result_map_both}
use Rattle.pytext.specs.Results.{◌>>=◌}
use Rattle.pylock_advisories.specs.Advisory.{AdvisoryValue}
use Rattle.pylock_audit.specs.Audit.{audited_of, findings_of}
use Rattle.pylock_audit.specs.Finding.{LockFindingValue}
use Rattle.pylock_command.specs.declared.form.Form.TheVariants.{Lines, Json}
use Rattle.pylock_command.specs.declared.task.AuditOutput.{AuditOutput}
use Rattle.pylock_command.specs.declared.task.AuditOutput.TheVariants.{Shown, Sarif}
use Rattle.pylock_command.specs.declared.task.AuditQuestion.{AuditQuestion}
use Rattle.pylock_findings.proofs.AllLemmas.{with_none}
use Rattle.pylock_findings.specs.All.{AreAll}
use Rattle.pylock_findings.specs.Merging.{merged}
use Rattle.pylock_findings.specs.Policy.{PolicyValue, counted, is_ignored, policy_of, status}
use Rattle.pylock_readers.specs.Lock.{LockValue}
use Rattle.pylock_readers.specs.declared.error.LockError.{LockError}
use Rattle.pylock_run.specs.Report.Print.{Prints}
use Rattle.pylock_run.specs.Stream.{SinkValue}
use Rattle.pylock_run.specs.declared.report.fault.RunFault.{RunFault}
use Rattle.pylock_run.specs.declared.report.opening.OpenError.TheVariants as open_error
use Rattle.pylock_settings.specs.Settings.{no_settings}
use Rattle.pylock_program.specs.Audit.{AuditValue, PrintsAll, PrintsAudit, PrintsCounted, PrintsFound, PrintsLocated, advisories_from, audit_form, lines_report, opened_audit, policy_in, settings_in, words_of}
use Rattle.pylock_program.specs.Findings.{findings_report, list_status}
use Rattle.pylock_program.specs.Refusal.{PrintsTelling, refusal_report, report_or_refusal}
use Rattle.pylock_program.specs.Reply.{audit_report, read_or_refused}
use Rattle.pylock_program.specs.Text.Audit.{finding_line}
use Rattle.pylock_program.specs.declared.opening.Unopened.TheVariants.{Refused}
use Rattle.pylock_program.specs.declared.refusal.Cause.{Cause}
use Rattle.pylock_program.specs.declared.refusal.Cause.TheVariants as cause

-- the policy of no words: nothing is ignored, and each finding fails
abbrev no_policy : PolicyValue
no_policy = record { fail_on = None; ignored = [] }

all_counted : (found : List LockFindingValue) → filter (λ one. not (is_ignored no_policy one)) found ≡ found
all_counted [] = refl
all_counted (one ∷ found) = ap (λ rest. one ∷ rest) (all_counted found)

none_ignored : (found : List LockFindingValue) → length (filter (is_ignored no_policy) found) ≡ 0
none_ignored [] = refl
none_ignored (one ∷ found) = none_ignored found

each_fails : (found : List LockFindingValue) → status no_policy found ≡ list_status found
each_fails [] = refl
each_fails (one ∷ found) = refl

same_report : (found : List LockFindingValue) → lines_report 0 (list_status found) found ≡ findings_report Lines found
same_report found =
    ap (λ head. record { text = head ++ codes "\n" ++ flat_map finding_line found; status = list_status found })
    (append-nil (codes "findings " ++ decimal (length found)))

-- what is printed of a reading where all that is found counts
abbrev As : AuditQuestion → AuditOutput → List ℕ → SinkValue → SinkValue → Result ℕ RunFault
    → Result (LockValue × List LockFindingValue) LockError → Type 0
As asked output lock sink sink' result (Ok audited) =
    PrintsCounted output asked.lock.now lock no_policy (audited.1, 0) sink sink' result
As asked output lock sink sink' result (Err error) =
    PrintsTelling (λ diagnostic. refusal_report (audit_form output) diagnostic
    (cause.Unopened (Refused (open_error.Lock error)))) sink sink' result

module _ (asked : AuditQuestion) (output : AuditOutput) (lock : List ℕ) (sink sink' : SinkValue) (result : Result ℕ RunFault)
    (shown : asked.output ≡ output) (environments : asked.environments ≡ false) (hosts : asked.hosts.items ≡ [])
    (ignored : asked.ignored.items ≡ []) (fail_on : asked.fail_on ≡ None) where
  abbrev opened : LockValue × List LockFindingValue → PolicyValue → AuditValue
  opened audited policy = record {
    lock = audited.0;
    found = audited.1;
    settings = no_settings;
    policy = policy;
    advisories = [];
  }

  no_words : policy_in asked no_settings ≡ Ok no_policy
  no_words =
      ap (λ words. result_map_both (λ policy. policy) cause.Policy (policy_of (option_map_or (λ w. Some w) (option_copied words) None) (words_of asked.ignored.items))) fail_on
      ∙ ap (λ words. result_map_both (λ policy. policy) cause.Policy (policy_of None (words_of words))) ignored

  alone : (audited : LockValue × List LockFindingValue) (all : List LockFindingValue)
      → AreAll false [] [] audited.0 audited.1 all → all ≡ audited.1
  alone audited all are = are.is ∙ with_none _ ∙ with_none _ ∙ ap (merged audited.1) are.are_others ∙ with_none audited.1

  of_found : (audited : LockValue × List LockFindingValue) → PrintsFound asked lock (opened audited no_policy) sink sink' result
      → PrintsCounted output asked.lock.now lock no_policy (audited.1, 0) sink sink' result
  of_found audited found =
      let are : AreAll false [] [] audited.0 audited.1 found.all =
      subst (λ e. AreAll (e || false) [] [] audited.0 audited.1 found.all) environments
      (subst (λ h. AreAll (asked.environments || false) [] (words_of h) audited.0 audited.1 found.all) hosts found.are_all) in
      subst (λ xs. PrintsCounted output asked.lock.now lock no_policy (xs, 0) sink sink' result) (alone audited found.all are)
      (subst (λ pair. PrintsCounted output asked.lock.now lock no_policy pair sink sink' result)
      (ap₂ (λ (xs : List LockFindingValue) (n : ℕ). (xs, n)) (all_counted found.all) (none_ignored found.all))
      (subst (λ o. PrintsCounted o asked.lock.now lock no_policy (counted no_policy found.all) sink sink' result) shown found.prints))

  abbrev opened_from : Result (LockValue × List LockFindingValue) LockError → Result AuditValue Cause
  opened_from read =
      result_map_both (λ audited. audited) (λ error. cause.Unopened (Refused (open_error.Lock error))) read
      >>= (λ audited. policy_in asked no_settings >>= (λ policy. Ok (opened audited policy)))

  by : (read : Result (LockValue × List LockFindingValue) LockError) → PrintsAudit asked lock (opened_from read) sink sink' result
      → As asked output lock sink sink' result read
  by (Err error) prints = subst (λ o. PrintsTelling (λ diagnostic. refusal_report (audit_form o) diagnostic
      (cause.Unopened (Refused (open_error.Lock error)))) sink sink' result) shown prints
  by (Ok audited) prints = of_found audited
      (subst (λ p. PrintsAudit asked lock (p >>= (λ policy. Ok (opened audited policy))) sink sink' result) no_words prints)

  pub plain_by : PrintsAudit asked lock (opened_audit asked lock [] None) sink sink' result
      → As asked output lock sink sink' result (audited_of lock)
  unfolding advisories_from
  plain_by prints = by (audited_of lock) prints

module _ (asked : AuditQuestion) (lock : List ℕ) (sink sink' : SinkValue) (result : Result ℕ RunFault) where
  lines_of : (read : Result (LockValue × List LockFindingValue) LockError) → As asked (Shown Lines) lock sink sink' result read
      → PrintsTelling (λ diagnostic. report_or_refusal (Some Lines) diagnostic (findings_report Lines)
      (read_or_refused (read >>= (λ audited. Ok audited.1)))) sink sink' result
  lines_of (Ok audited) prints = (
    None,
    subst (λ report. Prints report sink sink' result) (same_report audited.1)
        (subst (λ n. Prints (lines_report 0 n audited.1) sink sink' result) (each_fails audited.1) prints),
  )
  lines_of (Err error) prints = prints

  document_of : (read : Result (LockValue × List LockFindingValue) LockError) → As asked (Shown Json) lock sink sink' result read
      → PrintsAll lock (read_or_refused (read >>= (λ audited. Ok audited.1))) sink sink' result
  document_of (Ok audited) prints = subst (λ n. PrintsLocated lock audited.1 0 n sink sink' result) (each_fails audited.1) prints
  document_of (Err error) prints = prints

  pub plain_lines : asked.output ≡ Shown Lines → asked.environments ≡ false → asked.hosts.items ≡ [] → asked.ignored.items ≡ []
      → asked.fail_on ≡ None → PrintsAudit asked lock (opened_audit asked lock [] None) sink sink' result
      → PrintsTelling (λ diagnostic. audit_report Lines diagnostic lock) sink sink' result
  unfolding findings_of
  plain_lines shown environments hosts ignored fail_on prints =
      lines_of (audited_of lock) (plain_by asked (Shown Lines) lock sink sink' result shown environments hosts ignored fail_on prints)

  pub plain_document : asked.output ≡ Shown Json → asked.environments ≡ false → asked.hosts.items ≡ [] → asked.ignored.items ≡ []
      → asked.fail_on ≡ None → PrintsAudit asked lock (opened_audit asked lock [] None) sink sink' result
      → PrintsAll lock (read_or_refused (findings_of lock)) sink sink' result
  unfolding findings_of
  plain_document shown environments hosts ignored fail_on prints =
      document_of (audited_of lock) (plain_by asked (Shown Json) lock sink sink' result shown environments hosts ignored fail_on prints)

pub ruleset plain_audits = (plain_lines, plain_document)

use Rattle.std.proofs.Common.{◌≡◌, ◌∙◌, ◌+◌, ◌<◌, ◌++◌, Some, ap, append_assoc, drop, get_or, length, ltb-true, subst, sym}
use Rattle.pylock_audit.proofs.TableLemmas.{next_entry}
use Rattle.pylock_audit.specs.Finding.{findings_at}
use Rattle.pylock_audit.specs.Audit.{of_entries}
use Rattle.pylock_audit.specs.Entry.{entry_findings}
use Rattle.pylock_audit.proofs.findings.push_entries.Goals as goal

pub loop-table-preserved : goal.loop-table-preserved
loop-table-preserved c =
    let asked = c.args.asked in
    let head = c.args.lock.now.head in
    let entries = c.args.lock.now.entries in
    let place = c.loop-table.place in
    let entry = c.in-Some-get.entry.now in
    let table = c.in-Some.table in
    let left = c.next.new.self.rest.items in
    let before = c.loop-table.found.items in
    let looked = c.in-Some-get.ensures.lookup in
    let within : place < length entries = subst (λ es. place < length es) c.entries.ensures.entries (ltb-true place (length c.entries.result.now) (sym looked.0)) in
    let here : entry ≡ get_or entries place entry = subst (λ es. entry ≡ get_or es place entry) c.entries.ensures.entries looked.1 in
    let those = findings_at (place + 1) (Some entry.name) (entry_findings asked head table entry) in
    let rest = of_entries asked head ((place + 1) + 1) (drop (place + 1) entries) left in
    let pushed : c.push_entry.new.found.items ≡ before ++ those =
    c.in_ok-push_entry-in-Some-get.ensures ∙ ap (λ h. before ++ findings_at (place + 1) (Some entry.name) (entry_findings asked h table entry)) c.head.ensures in
    ap (λ found. found ++ rest) pushed
    ∙ append_assoc before those rest
    ∙ ap (λ more. before ++ more) (sym (next_entry asked head place entries entry table left within here))
    ∙ ap (λ tables. before ++ of_entries asked head (place + 1) (drop place entries) tables) (sym c.in-Some.ensures.steps.0)
    ∙ c.loop-table.invariant

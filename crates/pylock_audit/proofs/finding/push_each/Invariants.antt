use Rattle.std.proofs.Common.{◌≡◌, ◌++◌}
use Rattle.pylock_audit.specs.Finding.{findings_each}
use Rattle.pylock_audit.proofs.finding.push_each.Given as goal

abbrev pub invariant-loop-detail : goal.invariant-loop-detail
invariant-loop-detail l =
    l.findings.items ++ findings_each l.kind l.detail-iterator.rest.items
    ≡ l.initial.findings.items ++ findings_each l.kind l.fn.details.items

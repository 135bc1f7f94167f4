use Rattle.std.proofs.Common.{◌≡◌, ◌++◌, Some}
use Rattle.pylock_audit.specs.Finding.{findings_at, findings_each}
use Rattle.pylock_findings.proofs.lines.push_named.Given as goal

-- what is added so far, and what the details that are left give
abbrev pub invariant-loop-detail : goal.invariant-loop-detail
invariant-loop-detail l =
    l.found.items ++ findings_at l.number (Some l.name) (findings_each l.kind l.detail-iterator.rest.items)
    ≡ l.initial.found.items ++ findings_at l.number (Some l.name) (findings_each l.kind l.fn.details.items)

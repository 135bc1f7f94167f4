use Rattle.std.proofs.Common.{◌≡◌, ◌++◌, option_map}
use Rattle.pylock_audit.specs.Finding.{findings_at}
use Rattle.pylock_audit.proofs.finding.push_shared.Given as goal

abbrev pub invariant-loop-finding : goal.invariant-loop-finding
invariant-loop-finding l =
    l.found.items ++ findings_at l.number (option_map (λ name. name.now) l.name) l.finding-iterator.rest.items
    ≡ l.initial.found.items ++ findings_at l.number (option_map (λ name. name.now) l.name) l.fn.findings.items

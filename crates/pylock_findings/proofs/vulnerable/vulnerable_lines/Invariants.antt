use Rattle.std.proofs.Common.{◌≡◌, ◌+◌, ◌++◌, drop}
use Rattle.pylock_audit.specs.declared.finding.FindingKind.TheVariants as kind
use Rattle.pylock_findings.specs.Vulnerable.{advisory_texts, vulnerable_lines}
use Rattle.pylock_findings.specs.Lines.{lines_from}
use Rattle.pylock_findings.proofs.vulnerable.vulnerable_lines.Given as goal

-- what is found so far, and what the entries that are left give
abbrev pub invariant-loop-place : goal.invariant-loop-place
invariant-loop-place l =
    l.found.items ++ lines_from kind.Vulnerable (advisory_texts l.index) (l.place + 1) (drop l.place l.lock.entries)
    ≡ vulnerable_lines l.index l.lock.entries

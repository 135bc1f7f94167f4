use Rattle.std.proofs.Common.{◌≡◌, ◌+◌, ◌++◌, drop}
use Rattle.pylock_audit.specs.declared.finding.FindingKind.TheVariants as kind
use Rattle.pylock_findings.specs.Host.{host_lines, other_urls}
use Rattle.pylock_findings.specs.Texts.{lent_texts}
use Rattle.pylock_findings.specs.Lines.{lines_from}
use Rattle.pylock_findings.proofs.host.host_lines.Given as goal

-- what is found so far, and what the entries that are left give
abbrev pub invariant-loop-place : goal.invariant-loop-place
invariant-loop-place l =
    l.found.items ++ lines_from kind.OtherHost (other_urls (lent_texts l.hosts)) (l.place + 1) (drop l.place l.lock.entries)
    ≡ host_lines (lent_texts l.hosts) l.lock.entries

use Rattle.std.proofs.Common.{take}
use Rattle.pylock_findings.specs.Environments.{AreLines}
use Rattle.pylock_findings.proofs.environments.lines_of.Given as goal

-- the lines so far
abbrev pub invariant-loop-finding : goal.invariant-loop-finding
invariant-loop-finding l = AreLines l.entries (take l.finding-index l.findings) l.lines.items

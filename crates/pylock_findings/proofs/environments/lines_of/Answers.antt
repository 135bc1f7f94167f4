use Rattle.std.proofs.Common.{subst}
use Rattle.pylock_findings.specs.Environments.{IsLine}
use Rattle.pylock_findings.proofs.LineLemmas.{one_more}
use Rattle.pylock_findings.proofs.environments.lines_of.Goals as goal

-- the line of the finding at the index stands behind those so far
pub loop-finding-preserved : goal.loop-finding-preserved
loop-finding-preserved c = one_more c.args.entries.now c.args.findings.now c.loop-finding.finding-index _ c.loop-finding.lines.items
    c.push.new.self.items c.in_ok-line_of.field-0 c.loop-finding-test.true c.loop-finding.invariant c.in_ok-push.ensures.items
    (subst (λ f. IsLine c.args.entries.now f c.in_ok-line_of.field-0) c.finding-item.is c.in_ok-line_of.ensures)

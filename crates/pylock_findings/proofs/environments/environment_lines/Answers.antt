use Rattle.pylock_findings.proofs.LineLemmas.{of_lock}
use Rattle.pylock_findings.proofs.environments.environment_lines.Goals as goal

-- what is found in the environments of the lock is told
pub returns : goal.returns
returns c = of_lock c.args.lock.now c.head.result.now c.entries.result.now c.entries-2.result.now c.in_ok-findings.findings.items
    c.deref.result.now c.lines_of.result c.head.ensures c.entries.ensures.entries c.entries-2.ensures.entries c.deref.ensures.value
    c.in_ok-findings.ensures.shown c.in_ok-findings.ensures.whole c.in_ok-findings.ensures.order c.lines_of.ensures

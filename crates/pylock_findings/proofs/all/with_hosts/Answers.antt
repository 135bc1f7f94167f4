use Rattle.pylock_findings.proofs.AllLemmas.{no_hosts}
use Rattle.pylock_findings.proofs.all.with_hosts.Goals as goal

-- no hosts are asked for
pub returns-in-empty : goal.returns-in-empty
returns-in-empty c = no_hosts c.args.found.items c.args.hosts.now c.args.lock.now.entries c.in-empty.len_below

use Rattle.std.proofs.Common.{◌≡◌, drop}
use Rattle.std.specs.List.{list_any}
use Rattle.pylock_findings.specs.Host.{is_host}
use Rattle.pylock_findings.specs.Texts.{lent_texts}
use Rattle.pylock_findings.proofs.host.any_is.Given as goal

-- the hosts that are left decide
abbrev pub invariant-loop-asked : goal.invariant-loop-asked
invariant-loop-asked l = list_any (is_host l.host) (lent_texts (drop l.asked-index l.hosts)) ≡ list_any (is_host l.host) (lent_texts l.hosts)

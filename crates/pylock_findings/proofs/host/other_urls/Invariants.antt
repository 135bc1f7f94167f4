use Rattle.std.proofs.Common.{◌≡◌, map, take}
use Rattle.std.specs.List.{flat_map}
use Rattle.pylock_core.specs.Session.Picks.{lent_named}
use Rattle.pylock_findings.specs.Host.{other_url}
use Rattle.pylock_findings.specs.Texts.{lent_texts}
use Rattle.pylock_findings.proofs.host.other_urls.Given as goal

-- the URLs of the sources so far
abbrev pub invariant-loop-named : goal.invariant-loop-named
invariant-loop-named l =
    l.urls.items ≡ flat_map (λ named. other_url (lent_texts l.hosts) named.1) (map lent_named (take l.named-index l.named-items))

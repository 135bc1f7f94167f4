use Rattle.std.proofs.Common.{◌≡◌, map, take}
use Rattle.pylock_advisories.specs.Lent.{told_as}
use Rattle.pylock_findings.specs.Vulnerable.{advisory_text}
use Rattle.pylock_findings.proofs.vulnerable.texts_of.Given as goal

-- the texts so far
abbrev pub invariant-loop-told : goal.invariant-loop-told
invariant-loop-told l = l.texts.items ≡ map advisory_text (map told_as (take l.told-index l.affecting))

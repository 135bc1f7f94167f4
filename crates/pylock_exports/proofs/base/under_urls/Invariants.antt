use Rattle.std.proofs.Common.{◌≡◌, map, take}
use Rattle.pylock_exports.specs.Inner.{all_lent, lent_moved}
use Rattle.pylock_exports.proofs.base.under_urls.Given as goal

-- those so far are in the list
abbrev pub invariant-loop-source : goal.invariant-loop-source
invariant-loop-source l = all_lent l.list.items ≡ map lent_moved (take l.source-index l.sources)

use Rattle.std.proofs.Common.{◌≡◌, ◌++◌, not, map, take}
use Rattle.std.specs.BTreeSet.{contains}
use Rattle.std.specs.List.{filter}
use Rattle.pylock_compare.specs.Texts.{texts_cmp}
use Rattle.pylock_core.specs.Session.Picks.{lent_source}
use Rattle.pylock_diff.specs.Sources.{identity}
use Rattle.pylock_diff.proofs.sources.push_lone.Given as goal

abbrev pub invariant-loop-source : goal.invariant-loop-source
invariant-loop-source l =
    map lent_source l.list.items ≡ map lent_source l.initial.list.items
    ++ filter (λ source. not (contains texts_cmp l.set (identity source))) (map lent_source (take l.source-index l.sources))

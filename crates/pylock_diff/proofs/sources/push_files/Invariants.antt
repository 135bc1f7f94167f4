use Rattle.std.proofs.Common.{◌≡◌, ◌++◌, map, take}
use Rattle.pylock_core.specs.Session.Picks.{lent_source}
use Rattle.pylock_diff.specs.Sources.{file_change}
use Rattle.pylock_diff.proofs.sources.push_files.Given as goal

abbrev pub invariant-loop-source : goal.invariant-loop-source
invariant-loop-source l =
    l.changes.items ≡ l.initial.changes.items ++ map (file_change l.name l.gone) (map lent_source (take l.source-index l.sources))

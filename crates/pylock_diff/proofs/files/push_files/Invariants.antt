use Rattle.std.proofs.Common.{◌≡◌, ◌++◌, map, take}
use Rattle.std.specs.List.{flat_map}
use Rattle.pylock_core.specs.Session.Picks.{lent_source}
use Rattle.pylock_diff.specs.Files.{file_in}
use Rattle.pylock_diff.specs.Inner.Lent.{file_row}
use Rattle.pylock_diff.proofs.files.push_files.Given as goal

abbrev pub invariant-loop-source : goal.invariant-loop-source
invariant-loop-source l =
    map file_row l.rows.items ≡ map file_row l.initial.rows.items ++ flat_map (file_in l.archives) (map lent_source (take l.source-index l.sources))

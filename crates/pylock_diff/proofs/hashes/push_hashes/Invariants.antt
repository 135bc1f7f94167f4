use Rattle.std.proofs.Common.{◌≡◌, ◌++◌, take}
use Rattle.pylock_compare.specs.Lent.{each_told}
use Rattle.pylock_core.specs.Session.Picks.{lent_source}
use Rattle.pylock_diff.specs.Hashes.{hashes_told}
use Rattle.pylock_diff.proofs.hashes.push_hashes.Given as goal

abbrev pub invariant-loop-file : goal.invariant-loop-file
invariant-loop-file l =
    l.changes.items ≡ l.initial.changes.items ++ each_told lent_source (λ file. hashes_told l.name) l.files (take l.file-index l.file-items)

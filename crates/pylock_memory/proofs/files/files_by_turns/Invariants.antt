use Rattle.std.proofs.Common.{◌≡◌, ◌++◌, length, map}
use Rattle.pylock_memory.specs.Files.{file_value, files_by_turns}
use Rattle.pylock_memory.proofs.files.files_by_turns.Given as goal

-- the files that are made and those of the parts that are left are those of all parts
abbrev pub invariant-files : goal.invariant-files
invariant-files l =
    map file_value l.files.items ++ files_by_turns (map (λ part. part.now) l.left)
    ≡ files_by_turns (map (λ part. part.now) l.parts)

abbrev pub decreases-files : goal.decreases-files
decreases-files l = length l.left

use Rattle.std.proofs.Common.{◌≡◌, drop, map}
use Rattle.pylock_memory.specs.Files.{file_at, file_value}
use Rattle.pylock_memory.proofs.files.file_at.Given as goal

abbrev pub invariant-loop-file : goal.invariant-loop-file
invariant-loop-file l =
    file_at (map file_value (drop l.file-index l.files)) l.path ≡ file_at (map file_value l.files) l.path

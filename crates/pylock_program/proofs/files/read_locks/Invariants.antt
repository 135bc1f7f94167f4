use Rattle.std.proofs.Common.{◌≡◌, [], drop}
use Rattle.pylock_program.specs.Files.{locks_from}
use Rattle.pylock_program.specs.Inner.Audit.{file_bytes}
use Rattle.pylock_program.specs.Inner.Files.{reads_view}
use Rattle.pylock_program.proofs.files.read_locks.Given as goal

-- the files that are left lead on from the locks so far
abbrev pub invariant-loop-file : goal.invariant-loop-file
invariant-loop-file l =
    locks_from (reads_view l.locks.items) l.described (file_bytes (drop l.file-index l.files)) ≡ locks_from [] l.described (file_bytes l.files)

use Rattle.std.proofs.Common.{◌≡◌, ◌+◌, [], drop}
use Rattle.pylock_program.specs.Audit.{advisories_from}
use Rattle.pylock_program.specs.Inner.Audit.{file_bytes}
use Rattle.pylock_program.proofs.audit.read_advisories.Given as goal

-- the files that are left lead on from the advisories so far
abbrev pub invariant-loop-place : goal.invariant-loop-place
invariant-loop-place l =
    advisories_from l.advisories (l.place + 1) (file_bytes (drop l.place l.files)) ≡ advisories_from [] 1 (file_bytes l.files)

use Rattle.std.proofs.Common.{◌≡◌, ◌++◌, map, drop}
use Rattle.pylock_readers.specs.Entry.{wheel_name}
use Rattle.pylock_readers.proofs.entry.wheels.read_names.Given as goal

-- the names so far, and those of the files that are left
abbrev pub invariant-loop-file : goal.invariant-loop-file
invariant-loop-file l =
    l.names.items ++ map wheel_name (drop l.file-index l.files) ≡ map wheel_name l.files

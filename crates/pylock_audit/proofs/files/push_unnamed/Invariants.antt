use Rattle.std.proofs.Common.{◌≡◌, ◌++◌, drop, map}
use Rattle.std.specs.List.{flat_map}
use Rattle.pylock_readers.specs.Entry.{wheel_name}
use Rattle.pylock_audit.specs.Entry.{read_wheels, unnamed_wheel}
use Rattle.pylock_audit.proofs.files.push_unnamed.Given as goal

abbrev pub invariant-loop-place : goal.invariant-loop-place
invariant-loop-place l =
    l.findings.items ++ flat_map unnamed_wheel (map (λ file. (file, wheel_name file)) (drop l.place l.entry.wheels))
    ≡ l.initial.findings.items ++ flat_map unnamed_wheel (read_wheels l.entry)

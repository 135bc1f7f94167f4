use Rattle.std.proofs.Common.{◌≡◌, ◌++◌, drop, map, option_copied}
use Rattle.std.specs.List.{flat_map}
use Rattle.pylock_readers.specs.Entry.{wheel_name}
use Rattle.pylock_audit.specs.Entry.{other_wheel, read_wheels}
use Rattle.pylock_audit.proofs.files.push_others.Given as goal

abbrev pub invariant-loop-place : goal.invariant-loop-place
invariant-loop-place l =
    l.list.items
    ++ flat_map (other_wheel l.kind (option_copied l.wanted) l.entry.name) (map (λ file. (file, wheel_name file)) (drop l.place l.entry.wheels))
    ≡ flat_map (other_wheel l.kind (option_copied l.wanted) l.entry.name) (read_wheels l.entry)

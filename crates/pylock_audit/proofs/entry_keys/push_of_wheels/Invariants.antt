use Rattle.std.proofs.Common.{◌≡◌, ◌++◌, drop}
use Rattle.toml.specs.View.{items_view}
use Rattle.pylock_audit.specs.EntryKeys.{wheel_keys_told}
use Rattle.pylock_audit.proofs.entry_keys.push_of_wheels.Given as goal

-- the paths so far, and those of the wheels that are left
abbrev pub invariant-loop-place : goal.invariant-loop-place
invariant-loop-place l =
    l.paths.items ++ wheel_keys_told l.kind l.place (items_view (drop l.place l.wheels))
    ≡ l.initial.paths.items ++ wheel_keys_told l.kind 0 (items_view l.wheels)

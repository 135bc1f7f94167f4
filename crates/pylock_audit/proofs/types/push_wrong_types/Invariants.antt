use Rattle.std.proofs.Common.{◌≡◌, ◌++◌, ℕ, List, map, take}
use Rattle.std.specs.List.{flat_map}
use Rattle.toml.specs.View.{table_view}
use Rattle.pylock_audit.specs.Types.{wrong_at}
use Rattle.pylock_audit.specs.declared.types.KeyType.{KeyType}
use Rattle.pylock_audit.proofs.types.push_wrong_types.Given as goal

-- the paths of the keys so far
abbrev pub invariant-loop-key : goal.invariant-loop-key
invariant-loop-key l =
    l.paths.items
    ≡ l.initial.paths.items
    ++ flat_map (λ (typed : List ℕ × KeyType). wrong_at l.table (table_view l.members) typed.0 typed.1) (map (λ typed. (typed.0.now, typed.1)) (take l.key-index l.keys))

use Rattle.std.proofs.Common.{◌≡◌, drop}
use Rattle.toml.specs.View.{items_view}
use Rattle.pylock_audit.specs.Types.{are_tables}
use Rattle.pylock_audit.proofs.types.are_tables.Given as goal

abbrev pub invariant-loop-value : goal.invariant-loop-value
invariant-loop-value l =
    are_tables l.with_kind (items_view l.items) ≡ are_tables l.with_kind (items_view (drop l.value-index l.items))

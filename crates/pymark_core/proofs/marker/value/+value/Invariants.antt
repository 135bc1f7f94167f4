use Rattle.std.proofs.Common.{◌≡◌, ◌+◌, ◌*◌, drop, map}
use Rattle.std.specs.Option.{option_copied}
use Rattle.pymark_core.specs.Marker.Value.{conjunction_value, value_with}
use Rattle.pymark_core.specs.Marker.View.{atom_view, conjunction_view, tree_view}
use Rattle.pymark_core.proofs.Lemmas.Marker.Value.Turns.{and_onto, or_onto}
use Rattle.pymark_core.proofs.marker.value.+value.Given as goal

abbrev pub invariant-conjunction_value-loop-atom : goal.invariant-conjunction_value-loop-atom
invariant-conjunction_value-loop-atom l =
    and_onto (option_copied l.extra) l.environment l.value (map atom_view (drop l.atom-index l.atom-items)) (atom_view l.conjunction.last)
    ≡ conjunction_value (option_copied l.extra) l.environment (conjunction_view l.conjunction)

abbrev pub invariant-tree_value-loop-conjunction : goal.invariant-tree_value-loop-conjunction
invariant-tree_value-loop-conjunction l =
    or_onto (option_copied l.extra) l.environment l.value (map conjunction_view (drop l.conjunction-index l.conjunction-items)) (conjunction_view l.tree.last)
    ≡ value_with (option_copied l.extra) l.environment (tree_view l.tree)

abbrev pub decreases-atom_value : goal.decreases-atom_value
decreases-atom_value l = 3 * goal.size-atom_value l

abbrev pub decreases-conjunction_value : goal.decreases-conjunction_value
decreases-conjunction_value l = 3 * goal.size-conjunction_value l + 1

abbrev pub decreases-tree_value : goal.decreases-tree_value
decreases-tree_value l = 3 * goal.size-tree_value l + 2

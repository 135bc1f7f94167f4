use Rattle.std.proofs.Common.{◌≡◌, ◌+◌, ◌*◌, ◌++◌, drop, map}
use Rattle.pymark_core.specs.Marker.Pieces.{conjunction_pieces, piece_view, tree_pieces}
use Rattle.pymark_core.specs.Marker.Tree.{conjunction_of, tree_of}
use Rattle.pymark_core.specs.Marker.View.{atom_view, conjunction_view, tree_view}
use Rattle.pymark_core.proofs.marker.pieces.+pieces.Given as goal

abbrev pub invariant-push_conjunction-loop-atom : goal.invariant-push_conjunction-loop-atom
invariant-push_conjunction-loop-atom l =
    map piece_view l.list.items
    ++ conjunction_pieces (conjunction_of (map atom_view (drop l.atom-index l.atom-items)) (atom_view l.conjunction.last))
    ≡ map piece_view l.initial.list.items ++ conjunction_pieces (conjunction_view l.conjunction)

abbrev pub invariant-push_tree-loop-conjunction : goal.invariant-push_tree-loop-conjunction
invariant-push_tree-loop-conjunction l =
    map piece_view l.list.items
    ++ tree_pieces (tree_of (map conjunction_view (drop l.conjunction-index l.conjunction-items)) (conjunction_view l.tree.last))
    ≡ map piece_view l.initial.list.items ++ tree_pieces (tree_view l.tree)

abbrev pub decreases-push_atom : goal.decreases-push_atom
decreases-push_atom l = 3 * goal.size-push_atom l

abbrev pub decreases-push_conjunction : goal.decreases-push_conjunction
decreases-push_conjunction l = 3 * goal.size-push_conjunction l + 1

abbrev pub decreases-push_tree : goal.decreases-push_tree
decreases-push_tree l = 3 * goal.size-push_tree l + 2

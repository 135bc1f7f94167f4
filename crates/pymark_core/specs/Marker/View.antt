-- The tree that the code keeps, seen as a tree of markers.
use Rattle.std.specs.Prelude.{map}
use Rattle.pymark_core.specs.Marker.Tree as tree
use Rattle.pymark_core.specs.Marker.Tree.{Conjunction, Tree, conjunction_of, tree_of}
use Rattle.pymark_core.specs.declared.marker.tree.Atom.{Atom}
use Rattle.pymark_core.specs.declared.marker.tree.Atom.TheFolds.{fold-Atom}
use Rattle.pymark_core.specs.declared.marker.tree.Atom.TheOpen.{Atom-F, Leaf, Group}
use Rattle.pymark_core.specs.declared.marker.tree.Joined.{Joined}

-- parts joined by a word, each seen as what it is
abbrev pub joined_conjunction : Joined tree.Atom → Conjunction
joined_conjunction j = conjunction_of j.earlier.items j.last

abbrev pub joined_tree : Joined (Joined tree.Atom) → Tree
joined_tree j = tree_of (map joined_conjunction j.earlier.items) (joined_conjunction j.last)

-- one layer of an atom, with what its inner atoms are seen as instead
abbrev pub atom_step : Atom-F tree.Atom → tree.Atom
atom_step (Leaf comparison) = tree.leaf comparison.value
atom_step (Group inner) = tree.group (joined_tree inner.value)

abbrev pub atom_view : Atom → tree.Atom
atom_view = fold-Atom tree.Atom atom_step

abbrev pub conjunction_view : Joined Atom → Conjunction
conjunction_view j = conjunction_of (map atom_view j.earlier.items) (atom_view j.last)

abbrev pub tree_view : Joined (Joined Atom) → Tree
tree_view j = tree_of (map conjunction_view j.earlier.items) (conjunction_view j.last)

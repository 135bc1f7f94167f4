-- The view of an atom, by its variants.
use Rattle.std.proofs.Common.{◌≡◌, sym, ap, ◌∙◌}
use Rattle.std.proofs.lemmas.Simd.{map-map}
use Rattle.pymark_core.specs.Marker.Tree as tree
use Rattle.pymark_core.specs.Marker.View.{atom_step, atom_view, tree_view}
use Rattle.pymark_core.specs.declared.marker.tree.Atom.{Atom}
use Rattle.pymark_core.specs.declared.marker.tree.Atom.TheFolds.{fold-roll-Atom}
use Rattle.pymark_core.specs.declared.marker.tree.Atom.TheOpen as layer
use Rattle.pymark_core.specs.declared.marker.tree.Atom.TheVariants.{Group, rolls-Group}
use Rattle.pymark_core.specs.declared.marker.tree.Joined.{Joined}
use Rattle.std.specs.Global.{Box}

pub view_group : (b : Box (Joined (Joined Atom))) → atom_view (Group b) ≡ tree.group (tree_view b.value)
view_group b = ap atom_view (sym (rolls-Group b)) ∙ fold-roll-Atom tree.Atom atom_step (layer.Group b) ∙ simp map-map

use Rattle.pymark_core.proofs.Lemmas.Marker.View.{view_group}
use Rattle.pymark_core.proofs.marker.value.+value.Goals as goal

pub atom_value-returns-in-Group : goal.atom_value-returns-in-Group
atom_value-returns-in-Group t c = rw (c.in-Group.is, view_group c.in-Group.inner, ← c.deref-in-Group.ensures) c.tree_value.ensures

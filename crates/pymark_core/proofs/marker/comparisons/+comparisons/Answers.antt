use Rattle.pymark_core.proofs.Lemmas.Marker.View.{view_group}
use Rattle.pymark_core.proofs.marker.comparisons.+comparisons.Goals as goal

pub push_atom-returns-in-Group : goal.push_atom-returns-in-Group
push_atom-returns-in-Group t c =
    rw (c.in-Group.is, view_group c.in-Group.inner, ← c.deref-in-Group.ensures) c.push_tree.ensures

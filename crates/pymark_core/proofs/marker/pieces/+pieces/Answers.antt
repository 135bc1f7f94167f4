use Rattle.pymark_core.proofs.Lemmas.Marker.Pieces.{pushed_group}
use Rattle.pymark_core.proofs.Lemmas.Marker.View.{view_group}
use Rattle.pymark_core.specs.Marker.View.{tree_view}
use Rattle.pymark_core.proofs.marker.pieces.+pieces.Goals as goal

pub push_atom-returns-in_ok-push-in-Group-2 : goal.push_atom-returns-in_ok-push-in-Group-2
push_atom-returns-in_ok-push-in-Group-2 t c =
    rw (c.in-Group.is, view_group c.in-Group.inner, ← c.deref-in-Group.ensures)
    (pushed_group c.args.list.now.items c.push-in-Group.new.self.items c.push_tree.new.list.items
    c.push-in-Group-2.new.self.items (tree_view c.deref-in-Group.result.now)
    c.in_ok-push-in-Group.ensures.items c.in_ok-push_tree-in-Group.ensures c.in_ok-push-in-Group-2.ensures.items)

-- The record is the fields without the TAB before the first.
use Rattle.std.proofs.Common.{◌≡◌, ◌++◌, ◌∙◌, ℕ, List, ap}
use Rattle.std.specs.List.{flat_map}
use Rattle.std.proofs.lemmas.Result.{IfOk-weaker}
use Rattle.pymark_core.specs.Marker.Pieces.{tree_pieces}
use Rattle.pymark_core.specs.declared.marker.pieces.Piece.{Piece}
use Rattle.pylock_values.specs.MarkerPieces.{piece_fields}
use Rattle.pylock_values.proofs.MarkersLemmas.{marker_record_is}
use Rattle.pylock_values.proofs.markers.marker_record.Goals as goal

pub returns : goal.returns
returns c =
    let pieces = c.in_ok-pieces.pieces.items in
    let fields : c.deref-2.result.now ≡ flat_map piece_fields pieces =
    c.deref-2.ensures.value
    ∙ c.in_ok-push_pieces.ensures
    ∙ ap (λ (t : List ℕ). t ++ flat_map piece_fields c.deref.result.now) c.new-fields.ensures.items
    ∙ ap (λ (all : List Piece). flat_map piece_fields all) c.deref.ensures.value in
    IfOk-weaker c.without_first.result _ _
    (λ made h. marker_record_is pieces (tree_pieces c.args.marker.now.tree) made.items c.deref-2.result.now c.in_ok-pieces.ensures fields h)
    c.without_first.ensures

-- The pieces of a marker in parentheses.
use Rattle.std.proofs.Common.{◌≡◌, ◌++◌, [], ◌∷◌, List, map, ap, ◌∙◌, append_assoc}
use Rattle.std.proofs.lemmas.List.{map-append}
use Rattle.pymark_core.specs.Marker.Pieces.{PieceValue, closing, opening, piece_view, tree_pieces}
use Rattle.pymark_core.specs.Marker.Tree.{Tree}
use Rattle.pymark_core.specs.declared.marker.pieces.Piece.{Piece}
use Rattle.pymark_core.specs.declared.marker.pieces.Piece.TheVariants.{Open, Close}

pub pushed_group : (old opened filled closed : List Piece) (inner : Tree)
    → opened ≡ old ++ Open ∷ [] → map piece_view filled ≡ map piece_view opened ++ tree_pieces inner
    → closed ≡ filled ++ Close ∷ []
    → map piece_view closed ≡ map piece_view old ++ (opening ∷ (tree_pieces inner ++ closing ∷ []))
pushed_group old opened filled closed inner is_opened is_filled is_closed =
    let before = map piece_view old in
    let pieces = tree_pieces inner in
    ap (map piece_view) is_closed
    ∙ map-append piece_view filled (Close ∷ [])
    ∙ ap (λ (t : List PieceValue). t ++ closing ∷ [])
    (is_filled ∙ ap (λ (t : List PieceValue). t ++ pieces) (ap (map piece_view) is_opened ∙ map-append piece_view old (Open ∷ [])))
    ∙ append_assoc (before ++ opening ∷ []) pieces (closing ∷ [])
    ∙ append_assoc before (opening ∷ []) (pieces ++ closing ∷ [])

use Rattle.std.proofs.Common.{◌≡◌, ◌+◌, List, [], ◌∷◌, map, drop, ap, sym, subst, ◌∙◌}
use Rattle.std.proofs.lemmas.List.{drop_all, drop_more}
use Rattle.pymark_core.specs.Marker.Pieces.{PieceValue, piece_view}
use Rattle.pymark_core.specs.declared.marker.pieces.Piece.{Piece}
use Rattle.pymark_clauses.specs.Groups.{Reaches, empty}
use Rattle.pymark_clauses.proofs.marker.read.Goals as goal

pub loop-piece-init : goal.loop-piece-init
loop-piece-init c = λ e value is. record { inner = empty; outer = []; tells_inner = c.in_ok-empty.ensures e; tells_outer = c.new.ensures.items; reaches = is }

pub loop-piece-preserved : goal.loop-piece-preserved
loop-piece-preserved c = λ e value is.
    let pieces = c.args.pieces.now in
    let i = c.loop-piece.piece-index in
    let item = c.piece-item.result in
    let behind : List PieceValue = map piece_view (drop (i + 1) pieces) in
    let follows = rw c.in-Some.is at c.in_ok-next.ensures in
    let ahead : map piece_view (drop i pieces) ≡ piece_view item ∷ behind
    = ap (map piece_view) (drop_more pieces i item c.loop-piece-test.true ∙ ap (λ (x : Piece). x ∷ drop (i + 1) pieces) (sym c.piece-item.is)) in
    follows e behind value (subst (λ (ps : List PieceValue). Reaches e c.args.form.now.wanted c.loop-piece.groups ps value) ahead (c.loop-piece.invariant e value is))

pub returns : goal.returns
returns c = λ e value is.
    subst (λ (ps : List PieceValue). Reaches e c.args.form.now.wanted c.loop-piece.groups ps value)
    (ap (map piece_view) (drop_all c.loop-piece.piece-index c.args.pieces.now c.loop-piece-test.false)) (c.loop-piece.invariant e value is)

use Rattle.std.proofs.Common.{◌≡◌, [], Bool, Ok, drop, map}
use Rattle.pymark_core.specs.Environment.{EnvironmentValue}
use Rattle.pymark_core.specs.Marker.Pieces.{piece_view}
use Rattle.pymark_clauses.specs.Groups.{Reaches, empty, value_from}
use Rattle.pymark_clauses.proofs.marker.read.Given as goal

abbrev pub invariant-loop-piece : goal.invariant-loop-piece
invariant-loop-piece l =
    (e : EnvironmentValue) (value : Bool) → value_from e empty [] (map piece_view l.pieces) ≡ Ok value
    → Reaches e l.form.wanted l.groups (map piece_view (drop l.piece-index l.pieces)) value

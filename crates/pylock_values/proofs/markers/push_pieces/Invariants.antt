use Rattle.std.proofs.Common.{◌≡◌, ◌++◌, take}
use Rattle.std.specs.List.{flat_map}
use Rattle.pylock_values.specs.MarkerPieces.{piece_fields}
use Rattle.pylock_values.proofs.markers.push_pieces.Given as goal

abbrev pub invariant-loop-piece : goal.invariant-loop-piece
invariant-loop-piece l = l.out.items ≡ l.initial.out.items ++ flat_map piece_fields (take l.piece-index l.pieces)

use Rattle.std.proofs.Common.{◌≡◌, map, take}
use Rattle.pylock_matrix.proofs.cell.words.Given as goal

-- the words so far
abbrev pub invariant-loop-piece : goal.invariant-loop-piece
invariant-loop-piece l = l.words.items ≡ map (λ piece. piece.now) (take l.piece-index l.piece-items)

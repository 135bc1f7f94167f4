use Rattle.std.proofs.Common.{map}
use Rattle.pylock_run.proofs.PieceLemmas.{PiecesAt}
use Rattle.pylock_run.proofs.line.argument.pieces.Given as goal

abbrev pub invariant-loop-piece : goal.invariant-loop-piece
invariant-loop-piece l = PiecesAt l.fn.text l.piece-iterator (map (λ text. text.now) l.texts.items)

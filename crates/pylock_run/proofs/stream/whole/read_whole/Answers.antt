use Rattle.std.proofs.lemmas.Result.{err_from_is_err_and}
use Rattle.pylock_run.proofs.ReadLemmas.{IsCause-after}
use Rattle.pylock_run.proofs.stream.whole.read_whole.Goals as goal

pub returns-in_err-read_piece-clause-fault : goal.returns-in_err-read_piece-clause-fault
returns-in_err-read_piece-clause-fault g c =
    let error = err_from_is_err_and c.from_residual-in_err-read_piece.result c.from_residual-in_err-read_piece.ensures.1 in
    rw (error.1, error.2) (IsCause-after _ _ _ _ _ _ _ c.pieces.invariant c.pieces.bytes.ok.0 c.in_err-read_piece.ensures.fault)

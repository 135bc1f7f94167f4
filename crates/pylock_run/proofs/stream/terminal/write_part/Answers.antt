use Rattle.std.proofs.lemmas.Result.{err_from_is_err_and, on_err_weaker}
use Rattle.pylock_shown.specs.Visible.{control_text}
use Rattle.pylock_run.proofs.TerminalLemmas.{number_is}
use Rattle.pylock_run.proofs.WriteLemmas.{prefix_more, prefix_same, prefix_behind, Writes-same}
use Rattle.pylock_run.proofs.stream.terminal.write_part.Goals as goal

pub returns-in_err-write_all-clause-err : goal.returns-in_err-write_all-clause-err
returns-in_err-write_all-clause-err g c =
    let error = err_from_is_err_and c.from_residual.result c.from_residual.ensures.1 in
    rw error.1 (prefix_more _ _ c.args.plain.now (control_text c.args.character) (prefix_same _ _ _ _ c.as_bytes.ensures.value c.in_err-write_all.ensures.err))

pub returns-clause-err : goal.returns-clause-err
returns-clause-err g c =
    let wrote = Writes-same _ _ _ _ c.as_bytes.ensures.value c.in_ok-write_all.ensures.ok c.in_ok-write_all.ensures.counted in
    let number = number_is _ _ _ c.args.character c.deref.ensures.value c.in-Ok.ensures c.new-number.ensures.items in
    on_err_weaker c.write_all-2.result (prefix_behind _ _ _ _ _ (control_text c.args.character) wrote number) c.write_all-2.ensures.err

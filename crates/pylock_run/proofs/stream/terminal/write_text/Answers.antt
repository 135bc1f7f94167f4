use Rattle.std.proofs.Common.{◌∙◌, sym, rules}
use Rattle.std.proofs.lemmas.Result.{err_from_is_err_and, on_err_weaker}
use Rattle.pylock_run.specs.Stream.Terminal.{terminal_text}
use Rattle.pylock_run.proofs.WriteLemmas.{prefix_same, prefix_more, prefix_after_all, Pours-on}
use Rattle.pylock_run.proofs.stream.terminal.write_text.Goals as goal

pub returns-in_err-write_part-clause-err : goal.returns-in_err-write_part-clause-err
returns-in_err-write_part-clause-err g c =
    let error = err_from_is_err_and c.from_residual.result c.from_residual.ensures.1 in
    let parts = c.in-Some.ensures.parts in
    rw error.1 (prefix_after_all _ _ _ _ _ c.parts.invariant.1
    (prefix_same _ _ _ _ (sym parts) (prefix_more _ _ _ (terminal_text c.in-Some.behind.now) c.in_err-write_part.ensures.err)))

pub parts-preserved : goal.parts-preserved
parts-preserved g c =
    let parts = c.in-Some.ensures.parts in
    (search rules, Pours-on _ _ _ _ _ _ _ c.parts.invariant.1 parts c.in_ok-write_part.ensures.ok)

pub returns-clause-err : goal.returns-clause-err
returns-clause-err g c = on_err_weaker c.write_all.result (λ written. prefix_after_all _ _ _ _ _ c.parts.invariant.1
    (prefix_same _ _ _ _ (c.as_bytes.ensures.value ∙ sym c.in_default.ensures.plain) written)) c.write_all.ensures.err

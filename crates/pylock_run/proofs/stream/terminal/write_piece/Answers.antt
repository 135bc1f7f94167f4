use Rattle.std.proofs.Common.{◌∙◌, sym}
use Rattle.std.proofs.lemmas.Str.{utf8_lossy-IsUtf8}
use Rattle.pylock_run.proofs.stream.terminal.write_piece.Goals as goal

pub returns-in-Ok-clause-ok : goal.returns-in-Ok-clause-ok
returns-in-Ok-clause-ok g c =
    let text = utf8_lossy-IsUtf8 c.args.piece.now c.in-Ok.ensures.cases.1 ∙ sym c.in-Ok.ensures.cases.0 in
    rw text c.write_text.ensures.ok

pub returns-in-Ok-clause-err : goal.returns-in-Ok-clause-err
returns-in-Ok-clause-err g c =
    let text = utf8_lossy-IsUtf8 c.args.piece.now c.in-Ok.ensures.cases.1 ∙ sym c.in-Ok.ensures.cases.0 in
    rw text c.write_text.ensures.err

use Rattle.std.proofs.Common.{arith, rules}
use Rattle.pylock_run.proofs.FileLineLemmas.{ordinary_behind}
use Rattle.pylock_run.proofs.text.file_line.put_line.Goals as goal

pub returns-clause-ordinary : goal.returns-clause-ordinary
returns-clause-ordinary c = λ _.
    ordinary_behind c.args.texts.now c.args.start c.args.line.now c.put_texts.new.line (omega (arith, c.requires)) c.put_texts.ensures
    (c.is_ordinary_text.ensures (search rules))

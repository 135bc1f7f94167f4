use Rattle.std.proofs.Common.{◌∙◌, ap, arith}
use Rattle.std.proofs.lemmas.Grind.{text_groups}
use Rattle.std.proofs.lemmas.List.{take_all}
use Rattle.pylock_compare.specs.Lent.{lent_rows}
use Rattle.pylock_compare.specs.Rows.{values_at}
use Rattle.pylock_compare.proofs.RowLemmas.{under}
use Rattle.pylock_compare.proofs.rows.by_name.Goals as goal

pub loop-name-preserved : goal.loop-name-preserved
loop-name-preserved g c = grind (arith, text_groups)

pub returns : goal.returns
returns g c = λ name.
    c.loop-name.invariant name ∙ under name _
    ∙ ap (λ rows. values_at name (lent_rows rows)) (take_all c.loop-name.name-index c.args.rows.now c.loop-name-test.false)

use Rattle.std.proofs.Common.{◌∙◌, ap}
use Rattle.std.proofs.lemmas.List.{take_all}
use Rattle.pylock_metadata.specs.Inner.Names.{lent_rows}
use Rattle.pylock_metadata.specs.Named.{number_of}
use Rattle.pylock_metadata.proofs.NumberLemmas.{number_next}
use Rattle.pylock_metadata.proofs.named.numbers_by_name.Goals as goal

pub loop-name-preserved : goal.loop-name-preserved
loop-name-preserved c = λ name.
    number_next name c.args.rows.now c.loop-name.name-index _ _ _ c.loop-name-test.true (c.in_ok-put_number.ensures name) (c.loop-name.invariant name)

pub returns : goal.returns
returns c = λ name.
    c.loop-name.invariant name
    ∙ ap (λ rows. number_of (lent_rows rows) name) (take_all c.loop-name.name-index c.args.rows.now c.loop-name-test.false)

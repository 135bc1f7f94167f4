use Rattle.std.proofs.Common.{◌∙◌, ap, map}
use Rattle.pylock_compare.specs.Rows.{under_each}
use Rattle.pylock_compare.proofs.RowLemmas.{told_seen}
use Rattle.pylock_core.specs.Session.Picks.{lent_source}
use Rattle.pylock_diff.specs.Inner.Lent.{file_row}
use Rattle.pylock_diff.proofs.files.sides_of.Goals as goal

pub returns : goal.returns
returns c = λ told.
    told_seen lent_source told c.in_ok-sides.sides c.as_slice.result.now c.as_slice-2.result.now
    c.in_ok-sides.ensures.names c.in_ok-sides.ensures.olds c.in_ok-sides.ensures.news
    ∙ (λ i. under_each told ((ap (map file_row) c.as_slice.ensures.value ∙ c.in_ok-olds.ensures) i) ((ap (map file_row) c.as_slice-2.ensures.value ∙ c.in_ok-news.ensures) i))

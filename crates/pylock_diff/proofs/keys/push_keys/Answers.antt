use Rattle.std.proofs.Common.{◌∙◌, ◌++◌, ap, map}
use Rattle.pylock_compare.specs.Rows.{under_each}
use Rattle.pylock_compare.proofs.RowLemmas.{told_seen}
use Rattle.pylock_diff.specs.Inner.Lent.{lent_place, place_row}
use Rattle.pylock_diff.specs.Keys.{key_changes}
use Rattle.pylock_diff.proofs.keys.push_keys.Goals as goal

pub returns : goal.returns
returns c =
    let told = key_changes c.args.name.now c.args.told.now in
    c.in_ok-push_each.ensures
    ∙ ap (λ more. c.args.changes.now.items ++ more)
    (told_seen lent_place told c.in_ok-sides.sides c.as_slice.result.now c.as_slice-2.result.now
    c.in_ok-sides.ensures.names c.in_ok-sides.ensures.olds c.in_ok-sides.ensures.news
    ∙ (λ i. under_each told ((ap (map place_row) c.as_slice.ensures.value ∙ c.in_ok-olds.ensures) i) ((ap (map place_row) c.as_slice-2.ensures.value ∙ c.in_ok-news.ensures) i)))

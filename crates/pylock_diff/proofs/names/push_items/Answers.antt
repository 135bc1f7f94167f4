use Rattle.std.proofs.Common.{◌∙◌, ◌++◌, ap}
use Rattle.pylock_compare.proofs.RowLemmas.{told_seen}
use Rattle.pylock_diff.specs.Changes.{name_changes}
use Rattle.pylock_diff.specs.Inner.Lent.{lent_item}
use Rattle.pylock_diff.proofs.names.push_items.Goals as goal

pub returns : goal.returns
returns c =
    c.in_ok-push_names.ensures
    ∙ ap (λ more. c.args.changes.now.items ++ more)
    (told_seen lent_item name_changes c.in_ok-sides.sides c.args.olds.now c.args.news.now c.in_ok-sides.ensures.names c.in_ok-sides.ensures.olds c.in_ok-sides.ensures.news)

use Rattle.std.proofs.Common.{◌∙◌, ◌++◌, ℕ, Bor, List, ap}
use Rattle.pylock_compare.proofs.RowLemmas.{told_seen}
use Rattle.pylock_diff.specs.Hashes.{value_changes}
use Rattle.pylock_diff.proofs.hashes.push_each.Goals as goal

pub returns : goal.returns
returns c =
    c.in_ok-push_algorithms.ensures
    ∙ ap (λ more. c.args.changes.now.items ++ more)
    (told_seen (λ (text : Bor (List ℕ)). text.now) (value_changes c.args.name.now c.args.labels.0.now c.args.labels.1.now) c.in_ok-sides.sides
    c.args.olds.now c.args.news.now c.in_ok-sides.ensures.names c.in_ok-sides.ensures.olds c.in_ok-sides.ensures.news)

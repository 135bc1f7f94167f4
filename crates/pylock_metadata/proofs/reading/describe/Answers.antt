use Rattle.std.proofs.Common.{◌≤◌, ◌∙◌, ◌++◌, ◌∷◌, [], ap, arith, length}
use Rattle.toml.specs.Data.{table}
use Rattle.toml.specs.View.{table_view}
use Rattle.pylock_readers.specs.Lock.Reading.{most_entries}
use Rattle.pylock_metadata.specs.View.{entries_view}
use Rattle.pylock_metadata.proofs.DescribedLemmas.{described_enough, described_next, viewed_len, viewed_more}
use Rattle.pylock_metadata.proofs.reading.describe.Goals as goal

pub returns-in_ok-push : goal.returns-in_ok-push
returns-in_ok-push c = λ taken described few.
    let before = c.args.entries.now.items in
    ap entries_view c.in_ok-push.ensures.items ∙ viewed_more before _
    ∙ ap (λ said. entries_view before ++ said ∷ []) c.in_ok-of.ensures
    ∙ described_next (entries_view before) taken (table_view c.args.element.now) described few

pub returns-else-len-lt-MOST_ENTRIES : goal.returns-else-len-lt-MOST_ENTRIES
returns-else-len-lt-MOST_ENTRIES c = λ taken described.
    let before = c.args.entries.now.items in
    let enough : most_entries ≤ length (entries_view before) = omega (arith, viewed_len before) in
    described_enough (entries_view before) taken (table (table_view c.args.element.now)) enough described

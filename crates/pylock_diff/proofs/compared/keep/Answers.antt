use Rattle.std.proofs.Common.{arith}
use Rattle.toml.specs.Data.{table}
use Rattle.toml.specs.View.{table_view}
use Rattle.pylock_diff.proofs.KeptLemmas.{kept_enough, kept_next}
use Rattle.pylock_diff.proofs.compared.keep.Goals as goal

pub returns-in_ok-push : goal.returns-in_ok-push
returns-in_ok-push c = λ taken has.
    kept_next c.args.entries.now.items _ _ taken (table_view c.args.element.now)
    c.in_ok-push.ensures.items c.in_ok-of.ensures.codes c.in_ok-of.ensures.proper has

pub returns-else-len-lt-MOST_ENTRIES : goal.returns-else-len-lt-MOST_ENTRIES
returns-else-len-lt-MOST_ENTRIES c = λ taken has.
    kept_enough c.args.entries.now.items taken (table (table_view c.args.element.now)) (omega arith) has

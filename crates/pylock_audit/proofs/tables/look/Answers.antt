use Rattle.std.proofs.Common.{◌∙◌, ◌++◌, ◌∷◌, [], ap, arith}
use Rattle.toml.specs.Data.{table}
use Rattle.toml.specs.View.{table_view}
use Rattle.pylock_audit.proofs.TableLemmas.{looked_enough, looked_next}
use Rattle.pylock_audit.proofs.tables.look.Goals as goal

pub returns-in_ok-push : goal.returns-in_ok-push
returns-in_ok-push c = λ taken looked few.
    c.in_ok-push.ensures.items ∙ ap (λ found. c.args.tables.now.items ++ found ∷ []) c.in_ok-of.ensures
    ∙ looked_next c.args.tables.now.items taken (table_view c.args.element.now) looked few

pub returns-else-len-lt-MOST_ENTRIES : goal.returns-else-len-lt-MOST_ENTRIES
returns-else-len-lt-MOST_ENTRIES c = λ taken looked.
    looked_enough c.args.tables.now.items taken (table (table_view c.args.element.now)) (omega arith) looked

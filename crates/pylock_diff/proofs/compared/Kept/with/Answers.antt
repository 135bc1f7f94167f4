use Rattle.std.proofs.Common.{◌∙◌, Ok, sym}
use Rattle.toml.specs.View.{table_view}
use Rattle.pylock_diff.proofs.KeptLemmas.{compared_is, whole_is_proper}
use Rattle.pylock_diff.proofs.compared.Kept.with.Goals as goal

pub returns-clause-gives : goal.returns-clause-gives
returns-clause-gives c = λ taken has.
    compared_is (table_view c.args.document) taken c.args.self.entries.items c.in_ok-lock.lock has.kept (c.in_ok-lock.ensures taken has.read)
    ∙ (λ i. Ok (record { lock = c.in_ok-lock.lock; head = sym c.in_ok-head.ensures.keys i; entries = sym c.in_ok-entries.ensures.codes i }))

pub returns-clause-proper : goal.returns-clause-proper
returns-clause-proper c = λ taken has.
    whole_is_proper (table_view c.args.document) taken c.args.self.entries.items c.in_ok-lock.lock has.kept
    c.in_ok-head.ensures.proper c.in_ok-entries.ensures.proper (c.in_ok-lock.ensures taken has.read)

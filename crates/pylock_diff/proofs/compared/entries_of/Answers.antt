use Rattle.std.proofs.Common.{◌∙◌, sym}
use Rattle.pylock_diff.proofs.KeptLemmas.{kept_all, kept_none, none_proper}
use Rattle.pylock_diff.proofs.compared.entries_of.Goals as goal

pub returns-then-values-gt-MOST_ENTRIES-clause-codes : goal.returns-then-values-gt-MOST_ENTRIES-clause-codes
returns-then-values-gt-MOST_ENTRIES-clause-codes c =
    c.new-entries.ensures.items ∙ sym (kept_none c.args.values.now c.if-values-gt-MOST_ENTRIES.true)

pub returns-then-values-gt-MOST_ENTRIES-clause-proper : goal.returns-then-values-gt-MOST_ENTRIES-clause-proper
returns-then-values-gt-MOST_ENTRIES-clause-proper c = none_proper c.args.values.now c.if-values-gt-MOST_ENTRIES.true

pub returns-clause-codes : goal.returns-clause-codes
returns-clause-codes c =
    kept_all c.args.values.now c.loop-value.value-index c.loop-value.entries.items c.loop-value-test.false c.if-values-gt-MOST_ENTRIES.false
    c.loop-value.invariant.codes

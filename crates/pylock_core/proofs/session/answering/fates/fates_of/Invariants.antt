use Rattle.std.proofs.Common.{◌≡◌, ◌++◌, drop, map}
use Rattle.pylock_core.specs.Inner.Answering.Fates.{numbered_fate, row_fates}
use Rattle.pylock_core.specs.Inner.Answering.Steps.{numbered}
use Rattle.pylock_core.proofs.session.answering.fates.fates_of.Given as goal

-- what was made, and what becomes of the rows that are left
abbrev pub invariant-loop-number : goal.invariant-loop-number
invariant-loop-number l =
    l.fates.items ++ map (numbered_fate (numbered l.rows l.numbers) l.policies) (numbered l.rows (drop l.number-index l.numbers))
    ≡ row_fates (numbered l.rows l.numbers) l.policies

use Rattle.std.proofs.Common.{◌≡◌, drop}
use Rattle.pylock_core.specs.Inner.Answering.Fates.{first_active_row}
use Rattle.pylock_core.specs.Inner.Answering.Steps.{numbered}
use Rattle.pylock_core.proofs.session.answering.fates.first_active_of.Given as goal

-- the first of the rows that are left is the first of all
abbrev pub invariant-loop-number : goal.invariant-loop-number
invariant-loop-number l =
    first_active_row (numbered l.rows (drop l.number-index l.numbers)) l.name ≡ first_active_row (numbered l.rows l.numbers) l.name

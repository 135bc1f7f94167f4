use Rattle.std.proofs.Common.{◌≡◌, ℕ, None, drop, length, slice_index_or}
use Rattle.pytext.specs.Options.{either}
use Rattle.pylock_core.specs.Inner.Answering.Fates.{first_active_row}
use Rattle.pylock_core.specs.Inner.Answering.Steps.{numbered}
use Rattle.pylock_core.proofs.session.answering.fates.first_active.Given as goal

-- the first active row of each name is noted, or is among those that are left
abbrev pub invariant-loop-number : goal.invariant-loop-number
invariant-loop-number l =
    (length l.firsts.items ≡ l.names)
    × ((name : ℕ) → either (slice_index_or l.firsts.items name None) (first_active_row (numbered l.rows (drop l.number-index l.numbers)) name)
    ≡ first_active_row (numbered l.rows l.numbers) name)

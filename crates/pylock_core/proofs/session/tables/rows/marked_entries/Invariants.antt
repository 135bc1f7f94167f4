use Rattle.std.proofs.Common.{◌≡◌, ◌+◌, ◌++◌, drop}
use Rattle.pylock_core.specs.Inner.Tables.Rows.{is_marked}
use Rattle.pylock_core.specs.Session.Judgement.{numbers_where}
use Rattle.pylock_core.specs.Session.State.{in_rows}
use Rattle.pylock_core.proofs.session.tables.rows.marked_entries.Given as goal

-- the numbers so far, and those of the rows that are left
abbrev pub invariant-loop-place : goal.invariant-loop-place
invariant-loop-place l =
    l.numbers.items ++ numbers_where (is_marked l.marks) (in_rows (l.place + 1) (drop l.place l.rows))
    ≡ numbers_where (is_marked l.marks) (in_rows 1 l.rows)

use Rattle.std.proofs.Common.{◌≡◌, ◌++◌, drop}
use Rattle.pylock_metadata.specs.Dependencies.{rows_of}
use Rattle.pylock_metadata.specs.Inner.Names.{lent_rows}
use Rattle.pylock_metadata.proofs.depends.rows_of.Given as goal

-- the rows so far, and those of the picks that are left
abbrev pub invariant-loop-pick : goal.invariant-loop-pick
invariant-loop-pick l =
    lent_rows l.rows.items ++ rows_of l.session.state (drop l.pick-index l.picks) ≡ rows_of l.session.state l.picks

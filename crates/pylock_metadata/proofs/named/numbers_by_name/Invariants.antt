use Rattle.std.proofs.Common.{◌≡◌, ℕ, List, take}
use Rattle.pylock_metadata.specs.Inner.Names.{lent_rows, number_under}
use Rattle.pylock_metadata.specs.Named.{number_of}
use Rattle.pylock_metadata.proofs.named.numbers_by_name.Given as goal

-- the rows so far are put in
abbrev pub invariant-loop-name : goal.invariant-loop-name
invariant-loop-name l =
    (name : List ℕ) → number_under l.numbers name ≡ number_of (lent_rows (take l.name-index l.rows)) name

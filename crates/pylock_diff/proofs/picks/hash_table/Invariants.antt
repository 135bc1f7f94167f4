use Rattle.std.proofs.Common.{◌≡◌, drop}
use Rattle.toml.specs.Data.{no_members}
use Rattle.toml.specs.View.{table_view}
use Rattle.pylock_readers.specs.Text.{text_pairs}
use Rattle.pylock_diff.specs.Picks.{hash_members}
use Rattle.pylock_diff.proofs.picks.hash_table.Given as goal

-- with what is to come, the table of the whole
abbrev pub invariant-loop-algorithm : goal.invariant-loop-algorithm
invariant-loop-algorithm l = hash_members (text_pairs (drop l.algorithm-index l.hashes)) (table_view l.table) ≡ hash_members (text_pairs l.hashes) no_members

use Rattle.std.proofs.Common.{◌-◌, vec_len}
use Rattle.pylock_run.proofs.ReadLemmas.{HasRead}
use Rattle.pylock_run.proofs.stream.whole.read_whole.Given as goal

abbrev pub invariant-pieces : goal.invariant-pieces
invariant-pieces g l = HasRead l.limit (g.R.Source.value l.initial.input) (g.R.Source.value l.input) l.bytes.items

abbrev pub decreases-pieces : goal.decreases-pieces
decreases-pieces g l = l.limit - vec_len l.bytes

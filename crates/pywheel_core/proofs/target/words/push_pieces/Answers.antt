use Rattle.std.proofs.Common.{arith}
use Rattle.std.proofs.lemmas.Grind.{common_steps}
use Rattle.pywheel_core.proofs.TargetLemmas.{joined_is}
use Rattle.pywheel_core.proofs.target.words.push_pieces.Goals as goal

pub returns : goal.returns
returns c = rw (joined_is c.args.pieces.now) (grind (arith, common_steps))

use Rattle.pylock_core.proofs.Lemmas.Judging.Standings.{found_put}
use Rattle.pylock_core.proofs.session.judging.standings.keep_standing.Goals as goal

pub returns-then-place-len : goal.returns-then-place-len
returns-then-place-len c = found_put c.args.found.now.items _ _

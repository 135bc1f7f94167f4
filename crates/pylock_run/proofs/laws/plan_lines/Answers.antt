use Rattle.pylock_run.proofs.CountLemmas.{plan_text_lines}
use Rattle.pylock_run.proofs.laws.plan_lines.Goals as goal

pub returns : goal.returns
returns c state plan is = plan_text_lines state plan (c.picks_stand.ensures state plan is)

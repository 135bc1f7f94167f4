use Rattle.pylock_run.proofs.SteeringLemmas.{terminal_text_steers_nothing}
use Rattle.pylock_run.proofs.laws.no_text_steers_a_terminal.Goals as goal

pub returns : goal.returns
returns c = terminal_text_steers_nothing

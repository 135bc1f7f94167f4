use Rattle.pylock_run.proofs.TerminalLemmas.{terminal_text-append}
use Rattle.pylock_run.proofs.laws.parts_go_one_by_one.Goals as goal

pub returns : goal.returns
returns c = terminal_text-append

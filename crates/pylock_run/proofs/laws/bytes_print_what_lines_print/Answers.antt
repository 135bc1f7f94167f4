use Rattle.pylock_run.proofs.ReportLemmas.{status_of_input, text_of_input}
use Rattle.pylock_run.proofs.laws.bytes_print_what_lines_print.Goals as goal

pub returns-clause-text : goal.returns-clause-text
returns-clause-text c = text_of_input

pub returns-clause-status : goal.returns-clause-status
returns-clause-status c = status_of_input

use Rattle.pylock_run.proofs.EditingLemmas.{bytes_text-append, editing_after-append}
use Rattle.pylock_run.proofs.laws.pieces_print_one_by_one.Goals as goal

pub returns-clause-text : goal.returns-clause-text
returns-clause-text c = bytes_text-append

pub returns-clause-editing : goal.returns-clause-editing
returns-clause-editing c = editing_after-append

use Rattle.std.proofs.Common.{rules}
use Rattle.pylock_run.specs.Inner.Editing.{end_line, end_text}
use Rattle.pylock_run.proofs.report.editing.Editing.end_line.Goals as goal

pub returns-in_ok-self-inside-in-Ok-clause-text : goal.returns-in_ok-self-inside-in-Ok-clause-text
unfolding end_line end_text
returns-in_ok-self-inside-in-Ok-clause-text g c = search rules

pub returns-in_ok-push_line_refusal-in-Err : goal.returns-in_ok-push_line_refusal-in-Err
unfolding end_line end_text
returns-in_ok-push_line_refusal-in-Err g c = search rules

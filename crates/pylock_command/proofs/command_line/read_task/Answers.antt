use Rattle.std.proofs.Common.{subst}
use Rattle.std.proofs.lemmas.Result.{err_from_is_err_and}
use Rattle.clap.specs.Words.{subcommand_rows_of}
use Rattle.pylock_command.specs.CommandLine.{misuse_of}
use Rattle.pylock_command.specs.Misuse.{IsTold}
use Rattle.pylock_command.proofs.ClapLemmas.{IsRefusal-kept, IsRefusal-told, IsTask-told, fault_of-taken, misuse_of-taken}
use Rattle.pylock_command.proofs.command_line.read_task.Goals as goal

pub returns-in_err-matches-clause-refused : goal.returns-in_err-matches-clause-refused
returns-in_err-matches-clause-refused c =
    let error = err_from_is_err_and c.from_residual.result c.from_residual.ensures.1 in
    rw error.1 (IsRefusal-kept _ _ c.requires _ _ error.2 c.in_err-matches.ensures.kinds)

pub returns-in-Ok-clause-taken : goal.returns-in-Ok-clause-taken
returns-in-Ok-clause-taken c = fault_of-taken _ _ c.requires c.in_ok-matches.ensures.kinds

pub returns-in-Ok-clause-task : goal.returns-in-Ok-clause-task
returns-in-Ok-clause-task c =
    IsTask-told _ _ c.requires c.in_ok-matches.matches c.in-Ok.task c.in_ok-matches.ensures.ok.2 c.in-Ok.ensures.task

pub returns-in-Ok-clause-used : goal.returns-in-Ok-clause-used
returns-in-Ok-clause-used c = misuse_of-taken _ _ c.requires c.in_ok-matches.matches c.in_ok-matches.ensures.ok.2 c.in-Ok.ensures.refused

pub returns-in_ok-error_of-in-Err-Misused-clause-refused : goal.returns-in_ok-error_of-in-Err-Misused-clause-refused
returns-in_ok-error_of-in-Err-Misused-clause-refused c =
    let told = subst (IsTold (misuse_of (subcommand_rows_of c.in_ok-matches.matches))) c.in-Err-Misused.field-0-is c.in-Err-Misused.ensures.refused in
    IsRefusal-told _ _ c.requires c.in_ok-matches.matches c.in_ok-error_of-in-Err-Misused.field-0 c.in-Err-Misused.misuse c.in_ok-matches.ensures.ok.2 c.in_ok-matches.ensures.kinds told
    c.in_ok-error_of-in-Err-Misused.ensures

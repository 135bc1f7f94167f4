use Rattle.std.proofs.Common.{Ok, Err, IfOk, List, Result, refl, subst, sym}
use Rattle.std.specs.declared.alloc.AllocError.{AllocError}
use Rattle.clap.specs.Words.{App, Text, app_of}
use Rattle.clap.specs.declared.builder.command.Command.{Command}
use Rattle.pylock_command.specs.CommandLine.{IsEnough, pylock_app}
use Rattle.pylock_command.specs.Commands.{IsCommand}
use Rattle.clap.proofs.OnLiterals.{clap_on_literals}
use Rattle.pylock_command.proofs.NamedLemmas.{IsEnough-for, built_sub, built_top}
use Rattle.pylock_command.proofs.command_line.pylock_command.Goals as goal

enough : (words : List Text) (app : App) (result : Result Command AllocError) → IsEnough words app → IsCommand app result
    → IfOk result (λ command. IsEnough words (app_of command))
enough words app (Ok command) is same = subst (IsEnough words) (sym same) is
enough words app (Err error) is same = tt

pub returns : goal.returns
unfolding clap_on_literals pylock_app built_sub built_top
returns c = enough _ _ _ (IsEnough-for _ (record { labels = refl; telling = refl; are = refl; built-is = refl }) _ _ c.usages_for-usages.ensures)
    (c.with_each_usage.ensures _ c.bare_command.ensures)

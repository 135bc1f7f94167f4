use Rattle.std.proofs.Common.{take}
use Rattle.std.specs.List.{fold}
use Rattle.pylock_command.specs.Commands.{Adds}
use Rattle.pylock_command.specs.Subcommand.{with_usage}
use Rattle.pylock_command.proofs.command_line.with_each_usage.Given as goal

abbrev pub invariant-loop-usage : goal.invariant-loop-usage
invariant-loop-usage l = Adds (λ app. fold with_usage app (take l.usage-index l.usages)) l.initial.pylock l.pylock

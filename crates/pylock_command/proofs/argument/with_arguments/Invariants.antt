use Rattle.std.proofs.Common.{take}
use Rattle.pylock_command.specs.Argument.{with_arguments}
use Rattle.pylock_command.specs.Commands.{Adds, IsLocal}
use Rattle.pylock_command.proofs.argument.with_arguments.Given as goal

abbrev pub invariant-loop-argument : goal.invariant-loop-argument
invariant-loop-argument l = IsLocal l.command × Adds (λ app. with_arguments app (take l.argument-index l.arguments)) l.initial.command l.command

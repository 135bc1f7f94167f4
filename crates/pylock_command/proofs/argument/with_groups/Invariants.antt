use Rattle.std.proofs.Common.{take}
use Rattle.std.specs.List.{fold}
use Rattle.pylock_command.specs.Argument.{with_arguments}
use Rattle.pylock_command.specs.Commands.{Adds, IsLocal}
use Rattle.pylock_command.proofs.argument.with_groups.Given as goal

abbrev pub invariant-loop-group : goal.invariant-loop-group
invariant-loop-group l = IsLocal l.command × Adds (λ app. fold (λ app group. with_arguments app group.now) app (take l.group-index l.groups)) l.initial.command l.command

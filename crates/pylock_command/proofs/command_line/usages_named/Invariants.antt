use Rattle.std.proofs.Common.{◌≡◌, drop}
use Rattle.std.specs.List.{find}
use Rattle.pylock_command.specs.Subcommand.{has_name}
use Rattle.pylock_command.proofs.command_line.usages_named.Given as goal

-- none of those so far has the name
abbrev pub invariant-loop-usage : goal.invariant-loop-usage
invariant-loop-usage l = find (has_name l.name) (drop l.usage-index l.usages) ≡ find (has_name l.name) l.usages

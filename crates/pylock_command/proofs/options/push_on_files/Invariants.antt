use Rattle.std.proofs.Common.{◌+◌, ◌-◌, length, map}
use Rattle.pylock_command.specs.PlanOptions.{option_words}
use Rattle.pylock_command.proofs.PlanOptionLemmas.{Merging}
use Rattle.pylock_command.proofs.options.push_on_files.Given as goal

abbrev pub invariant-loop-wheel : goal.invariant-loop-wheel
invariant-loop-wheel l = Merging l.wheels l.sources l.wheel l.source (map option_words l.initial.list.items) l.list.items

abbrev pub decreases-loop-wheel : goal.decreases-loop-wheel
decreases-loop-wheel l = (length l.wheels - l.wheel) + (length l.sources - l.source)

use Rattle.std.proofs.Common.{◌≡◌, ◌++◌, map, take}
use Rattle.pylock_command.specs.PlanOptions.{option_words}
use Rattle.pylock_command.proofs.PlanOptionLemmas.{named}
use Rattle.pylock_command.proofs.options.push_texts.Given as goal

abbrev pub invariant-loop-text : goal.invariant-loop-text
invariant-loop-text g l = map option_words l.list.items ≡ map option_words l.initial.list.items ++ map (named l.name) (take l.text-index l.text-items)

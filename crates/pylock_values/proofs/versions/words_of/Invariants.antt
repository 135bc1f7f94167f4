use Rattle.std.proofs.Common.{◌≡◌, take}
use Rattle.std.specs.List.{flat_map}
use Rattle.pylock_values.specs.Parts.{words}
use Rattle.pylock_values.proofs.versions.words_of.Given as goal

abbrev pub invariant-loop-number : goal.invariant-loop-number
invariant-loop-number l = l.made.items ≡ flat_map words (take l.number-index l.numbers)

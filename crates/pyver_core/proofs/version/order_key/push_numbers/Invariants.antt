use Rattle.std.proofs.Common.{◌≡◌, ◌++◌, take}
use Rattle.std.specs.List.{flat_map}
use Rattle.pyver_core.specs.Version.OrderKey.{number_key}
use Rattle.pyver_core.proofs.version.order_key.push_numbers.Given as goal

abbrev pub invariant-loop-number : goal.invariant-loop-number
invariant-loop-number l = l.key.items ≡ l.initial.key.items ++ flat_map number_key (take l.number-index l.numbers)

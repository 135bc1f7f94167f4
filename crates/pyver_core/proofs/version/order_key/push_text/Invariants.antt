use Rattle.std.proofs.Common.{◌≡◌, ◌++◌, take}
use Rattle.std.specs.List.{flat_map}
use Rattle.pyver_core.specs.Version.OrderKey.{number_key}
use Rattle.pyver_core.proofs.version.order_key.push_text.Given as goal

abbrev pub invariant-loop-byte : goal.invariant-loop-byte
invariant-loop-byte l = l.key.items ≡ l.initial.key.items ++ flat_map number_key (take l.byte-index l.text)

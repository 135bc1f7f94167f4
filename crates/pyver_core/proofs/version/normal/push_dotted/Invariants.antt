use Rattle.std.proofs.Common.{◌≡◌, ◌++◌, string_bytes, take}
use Rattle.std.specs.List.{flat_map}
use Rattle.pyver_core.specs.Version.Normal.{dotted_number}
use Rattle.pyver_core.proofs.version.normal.push_dotted.Given as goal

abbrev pub invariant-loop-number : goal.invariant-loop-number
invariant-loop-number l =
    string_bytes l.text ≡ string_bytes l.initial.text ++ flat_map dotted_number (take l.number-index l.numbers)

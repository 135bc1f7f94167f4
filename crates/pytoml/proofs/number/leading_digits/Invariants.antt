use Rattle.std.proofs.Common.{◌≡◌, ◌-◌, ◌<◌, ◌≤◌, true, length, take}
use Rattle.std.specs.Char.{is_ascii_digit}
use Rattle.std.specs.List.{list_all}
use Rattle.std.specs.Str.Parse.{digits_value}
use Rattle.pytoml.proofs.number.leading_digits.Given as goal

abbrev pub invariant-loop-value : goal.invariant-loop-value
invariant-loop-value l =
    (l.len ≤ length l.bytes) × (list_all is_ascii_digit (take l.len l.bytes) ≡ true)
    × (l.value ≡ digits_value 10 (take l.len l.bytes)) × (l.value < 1000000000000000000)

abbrev pub decreases-loop-value : goal.decreases-loop-value
decreases-loop-value l = length l.bytes - l.len

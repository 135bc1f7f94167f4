use Rattle.std.proofs.Common.{◌≡◌, ◌≤◌, drop}
use Rattle.std.specs.List.{list_all}
use Rattle.std.specs.Char.{is_digit}
use Rattle.std.specs.Str.Parse.{digits_value, digits_value_after}
use Rattle.pytoml.proofs.basic.hex_char.Given as goal

abbrev pub invariant-loop-byte : goal.invariant-loop-byte
invariant-loop-byte l =
    (l.value ≤ 17825791) × (digits_value_after 16 l.value (drop l.byte-index l.digits) ≡ digits_value 16 l.digits)
    × (list_all (λ d. is_digit d 16) (drop l.byte-index l.digits) ≡ list_all (λ d. is_digit d 16) l.digits)

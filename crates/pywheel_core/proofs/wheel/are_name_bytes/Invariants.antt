use Rattle.std.proofs.Common.{◌≡◌, ◌&&◌, not, drop}
use Rattle.std.specs.List.{list_all}
use Rattle.pywheel_core.specs.Texts.{has_pair}
use Rattle.pywheel_core.specs.Wheel.Name.{is_wheel_name_byte}
use Rattle.pywheel_core.proofs.Lemmas.Wheel.Name.{name_goes_on}
use Rattle.pywheel_core.proofs.wheel.are_name_bytes.Given as goal

abbrev pub invariant-loop-byte : goal.invariant-loop-byte
invariant-loop-byte l = name_goes_on l.after_underscore (drop l.byte-index l.bytes) ≡ (list_all is_wheel_name_byte l.bytes && not (has_pair 95 l.bytes))

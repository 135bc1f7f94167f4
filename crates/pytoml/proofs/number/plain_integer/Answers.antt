use Rattle.std.proofs.Common.{arith, true, false, ◌≡◌, ◌≤◌, ◌-◌, ◌==◌, ◌&&◌, ◌||◌, length, get_or, take, w64, slice_index}
use Rattle.std.proofs.lemmas.Grind.{common_steps}
use Rattle.std.proofs.lemmas.Int.{to_z_pos}
use Rattle.std.specs.Char.{is_ascii_digit}
use Rattle.std.specs.List.{list_all}
use Rattle.std.specs.Str.Parse.{digits_value}
use Rattle.toml_parser.specs.Lexical.{first, is_word}
use Rattle.pytoml.proofs.Numbers.{digit_bounds, integer_read}
use Rattle.pytoml.proofs.number.plain_integer.Goals as goal
use Rattle.pytoml.proofs.number.plain_integer.Goals.{then-len-gt1, else-len-gt1}

pub skip-rest-requires-clause-there : goal.skip-rest-requires-clause-there
skip-rest-requires-clause-there c =
    let d = c.leading_digits-value in
    let bounds = rw c.as_bytes.ensures.value at (digit_bounds c.as_bytes.result.now d.result.1 (d.result.1 - 1) d.ensures.within d.ensures.digits (omega arith)) in
    omega arith

pub skip-rest-requires-clause-ascii : goal.skip-rest-requires-clause-ascii
skip-rest-requires-clause-ascii c =
    let d = c.leading_digits-value in
    let bounds = rw c.as_bytes.ensures.value at (digit_bounds c.as_bytes.result.now d.result.1 (d.result.1 - 1) d.ensures.within d.ensures.digits (omega arith)) in
    omega arith

pub returns-else-goes_on-clause-value : goal.returns-else-goes_on-clause-value
returns-else-goes_on-clause-value c =
    let s = c.args.s.now in
    let d = c.leading_digits-value in
    let is = c.as_bytes.ensures.value in
    let rest = c.skip-rest.result.now in
    let digits : list_all is_ascii_digit (take d.result.1 s) ≡ true = rw (← is) d.ensures.digits in
    let value : d.result.0 ≡ digits_value 10 (take d.result.1 s) = rw (← is) d.ensures.value in
    let within : d.result.1 ≤ length s = rw (← is) d.ensures.within in
    let ends : (is_word (first rest) || (first rest == 32 && is_ascii_digit (slice_index rest 1))) ≡ false = grind (arith, common_steps) in
    let lead : get_or s 0 0 ≡ 48 → d.result.1 ≤ 1 =
    λ zero. elim c.if-len-gt1.branch [ then-len-gt1 w ↦ grind (arith, common_steps) | else-len-gt1 w ↦ omega arith ] in
    rw (to_z_pos w64 d.result.0 (omega arith)) (integer_read s rest d.result.1 d.result.0 within (omega arith) digits value d.ensures.small lead c.skip-rest.ensures.rest ends)

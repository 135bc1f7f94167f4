use Rattle.std.proofs.Common.{arith, true, ◌≡◌, get_or}
use Rattle.std.proofs.lemmas.Grind.{common_steps}
use Rattle.std.specs.Char.{is_ascii_digit}
use Rattle.pytoml.proofs.Numbers.{digits_more}
use Rattle.pytoml.proofs.number.leading_digits.Goals as goal

pub loop-value-preserved : goal.loop-value-preserved
loop-value-preserved c =
    let l = c.loop-value in
    let bs = c.args.bytes.now in
    let here : is_ascii_digit (get_or bs l.len 0) ≡ true = grind (arith, common_steps) in
    let (all, value, most) = digits_more bs l.len (omega arith) here l.invariant.1 in
    (omega arith, all, omega (arith, c.from.ensures, value, l.invariant.2), omega (arith, c.from.ensures, most))

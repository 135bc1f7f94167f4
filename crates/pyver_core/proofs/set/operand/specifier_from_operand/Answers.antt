use Rattle.std.proofs.Common.{◌≡◌, ◌∙◌, Some, ap, refl, sym}
use Rattle.pyver_core.specs.Parsed.{parsed_operand}
use Rattle.pyver_core.specs.Set.Grammar.{specifier_numbers}
use Rattle.pyver_core.specs.Set.Reading.{operand_of}
use Rattle.pyver_core.specs.declared.set.error.SpecifierError.TheVariants.{NumberTooLarge}
use Rattle.pyver_core.proofs.Lemmas.Parsed.Outcomes.{within-false}
use Rattle.pyver_core.proofs.set.operand.specifier_from_operand.Goals as goal

pub returns-in-Ok : goal.returns-in-Ok
unfolding parsed_operand
returns-in-Ok c =
    let s = c.in-Ok.specifier in
    let some : operand_of c.args.operator c.args.operand.now ≡ Some s = sym c.in-Some-read_operand.ensures ∙ ap Some (sym c.in-Ok.ensures.0) in
    rw some (within-false NumberTooLarge (specifier_numbers s) s (rw c.in-Ok.ensures.0 c.in-Ok.ensures.1))

pub returns-in-Err-NumberTooLarge : goal.returns-in-Err-NumberTooLarge
unfolding parsed_operand
returns-in-Err-NumberTooLarge c =
    let past = rw c.in-Err-NumberTooLarge.field-0-is at c.in-Err-NumberTooLarge.ensures in
    λ _. rw (← c.in-Some-read_operand.ensures, past) refl

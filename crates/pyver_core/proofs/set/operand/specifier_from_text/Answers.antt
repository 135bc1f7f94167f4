use Rattle.std.proofs.Common.{refl}
use Rattle.pyver_core.specs.Parsed.{parsed_operand, parsed_specifier}
use Rattle.pyver_core.specs.Set.Reading.{specifier_of}
use Rattle.pyver_core.proofs.set.operand.specifier_from_text.Goals as goal

pub returns-in_default : goal.returns-in_default
unfolding parsed_specifier specifier_of
returns-in_default c = λ _. rw (← c.after_white.ensures, ← c.in_default.ensures) refl

pub returns : goal.returns
unfolding parsed_operand parsed_specifier specifier_of
returns c = rw (← c.after_white.ensures, ← c.in-Some.ensures) c.specifier_from_operand.ensures

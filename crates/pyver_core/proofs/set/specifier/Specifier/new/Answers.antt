use Rattle.std.proofs.Common.{◌≡◌, ◌∙◌, ap, sym}
use Rattle.pyver_core.specs.Parsed.{parsed_operand}
use Rattle.pyver_core.specs.Set.Grammar.{IsOperand, specifier_numbers}
use Rattle.pyver_core.specs.Set.Normal.{operator_of}
use Rattle.pyver_core.specs.Set.Reading.{operand_of}
use Rattle.pyver_core.specs.declared.set.error.SpecifierError.TheVariants.{Syntax, NumberTooLarge, Memory}
use Rattle.pyver_core.specs.declared.set.specifier.Operator.{Operator}
use Rattle.pyver_core.specs.declared.set.specifier.Specifier.{Specifier}
use Rattle.pyver_core.proofs.Lemmas.Parsed.Outcomes.{answers}
use Rattle.pyver_core.proofs.Lemmas.Set.Reading.Complete.{operand_complete}
use Rattle.pyver_core.proofs.Lemmas.Set.Reading.Sound.{operand_sound}
use Rattle.pyver_core.proofs.set.specifier.Specifier.new.Goals as goal

pub returns : goal.returns
unfolding parsed_operand
returns c =
    let o = c.args.operator in
    let text = c.args.operand.now in
    let IsMeant : Specifier → Type 0 = λ s. (operator_of s ≡ o) × IsOperand text s in
    let x = answers IsMeant specifier_numbers Memory Syntax NumberTooLarge (operand_of o text) c.specifier_from_operand.result (λ e. cc e) (λ e. cc e) (λ e. cc e)
    (operand_sound o text) (λ s p. ap (λ (q : Operator). operand_of q text) (sym p.0) ∙ operand_complete s text p.1) c.specifier_from_operand.ensures in
    record {
      ok = x.ok;
      fits = x.fits;
      syntax = λ is s same operand. x.syntax is s (same, operand);
      large = λ is. let y = x.large is in (y.0, y.1.0, y.1.1, y.2);
      exact = c.specifier_from_operand.ensures;
    }

use Rattle.std.proofs.Common.{◌≡◌, None, ◌∙◌, ap, sym}
use Rattle.std.specs.Option.{option_copied}
use Rattle.pyver_core.specs.Set.Reading.{operand_of}
use Rattle.pymark_algebra.specs.Literals.{IsEquation}
use Rattle.pymark_algebra.proofs.ValueLemmas.{spells_none, tells}
use Rattle.pymark_algebra.proofs.text.told_text.Goals as goal

pub returns : goal.returns
returns c =
    let literal = c.args.literal.now in
    let text = c.in-Some-right_text.text.now in
    let equation : IsEquation c.in-By.operator literal.wanted = c.is_equation.ensures c.if-not-is_equation.false in
    let none : operand_of c.in-By.operator text ≡ None = c.in_ok-reads_nothing.ensures c.if-not-branch.false in
    record {
      spells = spells_none c.in-By.operator literal.wanted text equation none;
      has = tells literal.comparison.now literal.wanted c.in-Some.variable text c.in-By.operator
          (sym c.left_variable.ensures ∙ c.in-Some.is) (sym c.right_text.ensures ∙ ap option_copied c.in-Some-right_text.is)
          (sym c.comparator.ensures ∙ c.in-By.is) equation none;
    }

use Rattle.std.proofs.Common.{◌∙◌, ap, subst, sym}
use Rattle.std.specs.Option.{IfSome, option_copied}
use Rattle.pymark_algebra.proofs.ValueLemmas.{has_left}
use Rattle.pymark_algebra.specs.Literals.{IsAgainstQuoted}
use Rattle.pymark_core.specs.declared.operand.Comparator.{Comparator}
use Rattle.pymark_algebra.proofs.text.value_left.Goals as goal

pub returns : goal.returns
returns c =
    has_left c.args.comparison.now c.args.variable c.args.text.now c.in_ok-right.right.now _ c.requires.left
    (sym c.right_text.ensures ∙ ap option_copied c.in_ok-right.was)
    (subst (λ (p : Comparator). IfSome c.value_against_quoted.result (IsAgainstQuoted c.args.text.now p c.in_ok-right.right.now))
    c.comparator.ensures c.value_against_quoted.ensures)

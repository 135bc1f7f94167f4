use Rattle.std.proofs.Common.{◌∙◌, ap, subst, sym}
use Rattle.std.specs.Option.{IfSome, option_copied}
use Rattle.pymark_algebra.proofs.ValueLemmas.{has_right}
use Rattle.pymark_algebra.specs.Literals.{IsOfQuoted}
use Rattle.pymark_core.specs.declared.operand.Comparator.{Comparator}
use Rattle.pymark_algebra.proofs.text.value_right.Goals as goal

pub returns : goal.returns
returns c =
    has_right c.args.comparison.now c.args.variable c.args.text.now c.in_ok-left.left.now _ c.requires
    (sym c.left_text.ensures ∙ ap option_copied c.in_ok-left.was)
    (subst (λ (p : Comparator). IfSome c.value_of_quoted.result (IsOfQuoted c.in_ok-left.left.now p c.args.text.now))
    c.comparator.ensures c.value_of_quoted.ensures)

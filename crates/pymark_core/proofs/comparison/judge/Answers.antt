use Rattle.std.proofs.Common.{◌∙◌, ap, sym, Ok, rules}
use Rattle.pyver_core.specs.Parsed.{parsed_operand, parsed_version}
use Rattle.pyver_core.specs.Set.Admission.{admits}
use Rattle.pymark_core.proofs.Lemmas.Marker.Value.Versions.{version_value_admits}
use Rattle.pymark_core.specs.Marker.ComparisonView.{unboxed}
use Rattle.pymark_core.proofs.comparison.judge.Goals as goal

pub returns-in-Ok-Ok : goal.returns-in-Ok-Ok
returns-in-Ok-Ok c =
    ap Ok (c.admits.ensures ∙ ap (λ s. admits s c.in-Ok-Ok.version) c.deref.ensures)
    ∙ sym (version_value_admits c.args.left.now c.args.right.now c.args.operator _ _ _
    (sym c.version.ensures ∙ c.in-Ok-Ok.is-0) (c.requires ∙ ap unboxed c.in-Ok-Ok.is-1))

pub returns-in_default : goal.returns-in_default
unfolding parsed_version parsed_operand
returns-in_default c = search rules

pub returns-in_default-2 : goal.returns-in_default-2
unfolding parsed_version parsed_operand
returns-in_default-2 c = search rules

pub returns-in_default-3 : goal.returns-in_default-3
unfolding parsed_version parsed_operand
returns-in_default-3 c = search rules

pub returns-in-Err-Syntax-default : goal.returns-in-Err-Syntax-default
unfolding parsed_version parsed_operand
returns-in-Err-Syntax-default c = search rules

use Rattle.std.proofs.Common.{◌≡◌, sym, ◌∙◌, Some, None}
use Rattle.std.specs.Prelude.{option_map}
use Rattle.pyver_core.specs.Set.Reading.{after_operator, operator_at}
use Rattle.pyver_core.proofs.Lemmas.Set.Reading.Operators.{cut_found}
use Rattle.pyver_core.proofs.set.specifier.Operator.read.Goals as goal

pub returns-in_err-rest : goal.returns-in_err-rest
returns-in_err-rest c =
    let t = c.args.text.now in
    let o = c.in_ok-operator.operator in
    let found : option_map (λ cut. cut.0) (operator_at t) ≡ Some o = sym c.longest_operator.ensures ∙ c.in_ok-operator.was in
    let none : after_operator o t ≡ None = rw c.in_err-rest.was at (sym c.after_operator.ensures) in
    let cut = rw none at (cut_found t o found) in
    let given = c.from_residual-in_err-rest.ensures in
    cc

pub returns : goal.returns
returns c =
    let t = c.args.text.now in
    let o = c.in_ok-operator.operator in
    let found : option_map (λ cut. cut.0) (operator_at t) ≡ Some o = sym c.longest_operator.ensures ∙ c.in_ok-operator.was in
    let behind : after_operator o t ≡ Some c.in_ok-rest.rest.now = rw c.in_ok-rest.was at (sym c.after_operator.ensures) in
    let cut = rw behind at (cut_found t o found) in
    sym cut

use Rattle.std.proofs.Common.{◌≡◌, true, subst, arith}
use Rattle.std.proofs.lemmas.Bool.Decides.{nat_tests}
use Rattle.std.proofs.lemmas.Grind.{common_steps}
use Rattle.toml_parser.specs.Lexical.{skip_ws}
use Rattle.toml.specs.Parse.{ends_line}
use Rattle.pytoml.proofs.Lines.{line_is}
use Rattle.pytoml.proofs.document.line.Goals.{then-is_empty, else-is_empty+in-35, else-is_empty+in_default}
use Rattle.pytoml.proofs.document.line.Goals as goal

pub returns-then-matches-clause-adds : goal.returns-then-matches-clause-adds
returns-then-matches-clause-adds g c = λ doc stands.
    let rest = c.in_ok-rest.rest.now in
    let (e, next, read, defined, now) = c.in_ok-rest.ensures.adds doc stands in
    let here : ends_line c.past_ws-end.result.now ≡ true =
    elim c.if-is_empty.branch [
      | then-is_empty w ↦ grind (arith, nat_tests, common_steps)
      | else-is_empty+in-35 w ↦ grind (arith, nat_tests, common_steps)
      | else-is_empty+in_default w ↦ grind (arith, nat_tests, common_steps)
    ] in
    let ends : ends_line (skip_ws rest) ≡ true = subst (λ t. ends_line t ≡ true) c.past_ws-end.ensures.rest here in
    (e, next, line_is c.args.s.now rest e read ends, defined, now)

use Rattle.std.proofs.Common.{◌≡◌, ◌==◌, true, Some, ◌∙◌, ap, sym, arith}
use Rattle.std.proofs.lemmas.Bool.Decides.{nat_tests}
use Rattle.std.proofs.lemmas.Grind.{common_steps}
use Rattle.toml_parser.specs.Lexical.{first}
use Rattle.toml_parser.specs.Reading.{key_view}
use Rattle.toml.specs.Tables.{array_table}
use Rattle.pytoml.proofs.Lines.{array_header_is}
use Rattle.pytoml.proofs.document.array_header.Goals as goal

pub returns-clause-adds : goal.returns-clause-adds
returns-clause-adds g c = λ doc stands.
    let (next, defined, now) = c.in_ok-open_element.ensures doc stands in
    let rest = c.in_ok-key.rest.now in
    let closing : (first rest == 93) ≡ true = grind (arith, nat_tests, common_steps) in
    let read = array_header_is c.args.s.now rest (key_view c.in_ok-key.key) c.in_ok-key.ensures.value closing in
    ((key_view c.in_ok-key.key, array_table), next, read ∙ ap (λ t. Some ((key_view c.in_ok-key.key, array_table), t)) (sym c.skip.ensures.rest), defined, now)

use Rattle.std.proofs.Common.{◌≡◌, ◌&&◌, ◌==◌, true, false, [], Some, drop, slice_index, string_bytes, ◌∙◌, ap, sym, subst, arith}
use Rattle.std.proofs.lemmas.Bool.Decides.{nat_tests}
use Rattle.std.proofs.lemmas.Grind.{common_steps}
use Rattle.std.proofs.lemmas.Result.{IfOk-weaker}
use Rattle.toml_parser.specs.Lexical.{first}
use Rattle.toml_parser.specs.Strings.{Key}
use Rattle.toml_parser.specs.Reading.{key_view}
use Rattle.toml.specs.Parse.{header_key}
use Rattle.toml.specs.Tables.{key_value, std_table}
use Rattle.pytoml.specs.Draft.{Adds, array_header}
use Rattle.pytoml.proofs.Lines.{expression_element, expression_table, expression_pair}
use Rattle.pytoml.proofs.document.expression.Goals.{else-first-eq91-via-then-first-eq91+else-byte_at-eq91, else-first-eq91-via-else-first-eq91}
use Rattle.pytoml.proofs.document.expression.Goals as goal

pub returns-then-byte_at-eq91-clause-adds : goal.returns-then-byte_at-eq91-clause-adds
returns-then-byte_at-eq91-clause-adds g c =
    let s = c.args.s.now in
    let brackets : (first s == 91 && slice_index s 1 == 91) ≡ true = grind (arith, nat_tests, common_steps) in
    subst (Adds g.L.Lines.stands c.args.draft.now c.array_header.new.draft c.array_header.result)
    (ap array_header c.skip.ensures.rest ∙ sym (expression_element s brackets)) c.array_header.ensures.adds

pub returns-in_ok-open_table-clause-adds : goal.returns-in_ok-open_table-clause-adds
returns-in_ok-open_table-clause-adds g c = λ doc stands.
    let s = c.args.s.now in
    let one : (first s == 91) ≡ true = grind (arith, nat_tests, common_steps) in
    let no_second : (first s == 91 && slice_index s 1 == 91) ≡ false =
    elim c.else-first-eq91.branch [
      | else-first-eq91-via-then-first-eq91+else-byte_at-eq91 w ↦ grind (arith, nat_tests, common_steps)
      | else-first-eq91-via-else-first-eq91 w ↦ grind (arith, nat_tests, common_steps)
    ] in
    let k = key_view c.in_ok-key.key in
    let (next, defined, now) = c.in_ok-open_table.ensures doc stands in
    let read : header_key (drop 1 s) ≡ Some (k, c.in_ok-key.rest.now) = ap header_key (sym c.skip-then-first-eq91-2.ensures.rest) ∙ c.in_ok-key.ensures.value in
    ((k, std_table), next, expression_table s c.in_ok-key.rest.now k no_second one read, defined, now)

pub returns-in_ok-key-2-clause-adds : goal.returns-in_ok-key-2-clause-adds
returns-in_ok-key-2-clause-adds g c = λ doc stands.
    let s = c.args.s.now in
    let key : Key = ([], string_bytes c.in_ok-key-2.key) in
    let none : (first s == 91) ≡ false = grind (arith, nat_tests, common_steps) in
    IfOk-weaker c.put.result _ _ (λ rest made.
    let (d, next, read, defined, now) = made in
    ((key, key_value d), next, expression_pair s c.in_ok-key-2.at_value.now rest.now key d none c.in_ok-key-2.ensures.value read, defined, now)) (c.put.ensures.puts doc stands)

pub returns-in_ok-key-2-clause-shorter : goal.returns-in_ok-key-2-clause-shorter
returns-in_ok-key-2-clause-shorter g c =
    IfOk-weaker c.put.result _ _ (λ rest less. omega (arith, less, c.in_ok-key-2.ensures.shorter)) c.put.ensures.shorter

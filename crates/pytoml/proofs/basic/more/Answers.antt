use Rattle.std.proofs.Common.{arith, rules, ◌∙◌, ap, string_bytes, refl}
use Rattle.std.proofs.lemmas.List.{append-nil}
use Rattle.toml_parser.specs.Strings.{prepend}
use Rattle.pytoml.proofs.Strings.{body_ends, on_and_on}
use Rattle.pytoml.proofs.basic.more.Goals as goal

pub returns-then-first-eq34-clause-value : goal.returns-then-first-eq34-clause-value
returns-then-first-eq34-clause-value c n h =
    let l = c.pieces in
    let (m, fits, on) = l.invariant.2 n h in
    on ∙ ap (prepend (string_bytes l.text)) (body_ends m l.rest.now (omega (arith, c.first.ensures)) (omega arith))
    ∙ rw (append-nil (string_bytes l.text), c.skip.ensures.rest) refl

pub pieces-preserved : goal.pieces-preserved
pieces-preserved c =
    let l = c.pieces in (
      search rules,
      omega (arith, l.invariant.1, c.in_ok-rest.ensures.shorter),
      on_and_on _ _ l.rest.now (string_bytes l.text) _ _ l.invariant.2 c.in_ok-rest.ensures.value,
    )

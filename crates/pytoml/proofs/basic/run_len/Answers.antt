use Rattle.std.proofs.Common.{arith, false}
use Rattle.std.proofs.lemmas.Bool.Decides.{nat_tests}
use Rattle.toml_parser.proofs.LexicalLemmas.{IsCharBoundary-wide_run}
use Rattle.toml_parser.specs.Strings.{is_plain}
use Rattle.pytoml.proofs.Strings.{all_run, simple_boundary, simple_run}
use Rattle.pytoml.proofs.basic.run_len.Goals as goal

pub returns-then-first-eq9-clause-plain : goal.returns-then-first-eq9-clause-plain
returns-then-first-eq9-clause-plain c =
    rw (c.plain_len.ensures, c.as_bytes.ensures.value) (all_run (is_plain 34 false) c.args.s.now)

pub returns-then-first-eq9-clause-boundary : goal.returns-then-first-eq9-clause-boundary
returns-then-first-eq9-clause-boundary c =
    rw (c.plain_len.ensures, c.as_bytes.ensures.value) (IsCharBoundary-wide_run (is_plain 34 false) c.args.s.now (λ b e. grind (arith, nat_tests)))

pub returns-else-first-eq9-clause-plain : goal.returns-else-first-eq9-clause-plain
returns-else-first-eq9-clause-plain c =
    simple_run c.args.s.now c.simple_end.result (rw (← c.as_bytes-else-first-eq9.ensures.value) c.simple_end.ensures.end)

pub returns-else-first-eq9-clause-boundary : goal.returns-else-first-eq9-clause-boundary
returns-else-first-eq9-clause-boundary c =
    simple_boundary c.args.s.now c.simple_end.result (rw (← c.as_bytes-else-first-eq9.ensures.value) c.simple_end.ensures.end)

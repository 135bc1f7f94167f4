use Rattle.std.proofs.Common.{refl, sym, ap, ◌∙◌, arith}
use lib.Count.{count_trailing_zeros}
use Rattle.pytoml.specs.Text.{is_stop, is_simple}
use Rattle.pytoml.proofs.Runs.{run_bound, run_through, run_stops}
use Rattle.pytoml.proofs.text.simple_end.Goals as goal

pub returns-then-found-ne0-clause-end : goal.returns-then-found-ne0-clause-end
returns-then-found-ne0-clause-end c =
    let found = c.stops-found in
    let run = run_stops is_stop is_simple (λ x. refl) c.args.bytes.now c.loop-at.at 16 (omega arith) (omega arith) (omega (arith, found.ensures)) ∙ ap (count_trailing_zeros 64) (sym found.ensures) in
    omega (arith, run, c.loop-at.invariant.0)

pub returns-then-found-ne0-clause-within : goal.returns-then-found-ne0-clause-within
returns-then-found-ne0-clause-within c =
    let found = c.stops-found in
    let run = run_stops is_stop is_simple (λ x. refl) c.args.bytes.now c.loop-at.at 16 (omega arith) (omega arith) (omega (arith, found.ensures)) ∙ ap (count_trailing_zeros 64) (sym found.ensures) in
    omega (arith, run, run_bound is_simple c.args.bytes.now c.loop-at.at c.loop-at.invariant.1)

pub loop-at-preserved : goal.loop-at-preserved
loop-at-preserved c =
    let run = run_through is_stop is_simple (λ x. refl) c.args.bytes.now c.loop-at.at 16 (omega arith) (omega (arith, c.stops-found.ensures)) in
    (omega (arith, run, c.loop-at.invariant.0), omega arith)

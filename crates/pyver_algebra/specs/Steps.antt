-- The versions whose first two numbers are those of an operand lie between two cuts.
use Rattle.std.specs.Prelude.{◌≡◌, not}
use Rattle.std.specs.Ordering.{is_gt, is_lt}
use Rattle.pyver_core.specs.Version.Order.{version_cmp}
use Rattle.pyver_core.specs.Version.Parts.{Parts, base_release}
use Rattle.pyver_algebra.specs.FirstTwo.{first_two}
use Rattle.pyver_algebra.specs.Limits.{is_past}
use Rattle.pyver_algebra.specs.declared.step.Step.{Step}

-- of versions without an epoch: those past the first cut have first numbers that are at least the
-- operand, a release alone, and those past the second have ones after it
pub record IsStepOf (operand : Parts) (step : Step) : Type 0 where
  pub final : operand ≡ base_release operand
  pub from : (v : Parts) → v.epoch ≡ 0
      → is_past step.begin v ≡ not (is_lt (version_cmp (first_two v) operand))
  pub behind : (v : Parts) → v.epoch ≡ 0
      → is_past step.end v ≡ is_gt (version_cmp (first_two v) operand)

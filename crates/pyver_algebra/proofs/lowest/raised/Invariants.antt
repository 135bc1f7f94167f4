use Rattle.std.proofs.Common.{IsTrue}
use Rattle.std.specs.Prelude.{option_copied}
use Rattle.pyver_core.specs.Version.Parts.{Parts}
use Rattle.pyver_algebra.specs.Limits.{Keeps, is_past_lowest}
use Rattle.pyver_algebra.proofs.lowest.raised.Given as goal

abbrev pub invariant-loop-limit : goal.invariant-loop-limit
invariant-loop-limit l = (v : Parts) → Keeps l.limits v → IsTrue (is_past_lowest (option_copied l.known) v) → IsTrue (is_past_lowest (option_copied l.lowest) v)

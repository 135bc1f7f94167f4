use Rattle.std.proofs.Common.{IsTrue}
use Rattle.pyver_core.specs.Set.Admission.{admits_all}
use Rattle.pyver_core.specs.Version.Parts.{Parts}
use Rattle.pyver_algebra.specs.Limits.{Keeps}
use Rattle.pyver_algebra.proofs.bounds.Bounds.add_all.Given as goal

abbrev pub invariant-loop-specifier : goal.invariant-loop-specifier
invariant-loop-specifier l = (v : Parts) → Keeps l.initial.self v → IsTrue (admits_all l.specifiers v) → Keeps l.self v

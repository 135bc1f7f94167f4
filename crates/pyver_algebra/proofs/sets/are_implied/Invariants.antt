use Rattle.std.proofs.Common.{IsTrue, take}
use Rattle.pyver_core.specs.Set.Admission.{admits_all}
use Rattle.pyver_core.specs.Version.Parts.{Parts}
use Rattle.pyver_algebra.proofs.sets.are_implied.Given as goal

abbrev pub invariant-loop-specifier : goal.invariant-loop-specifier
invariant-loop-specifier l = (v : Parts) → IsTrue (admits_all l.known v) → IsTrue (admits_all (take l.specifier-index l.specifiers) v)

use Rattle.std.proofs.Common.{take}
use Rattle.pylock_advisories.specs.Index.{IsIndex}
use Rattle.pylock_advisories.proofs.index.under_names.Given as goal

abbrev pub invariant-loop-advisory : goal.invariant-loop-advisory
invariant-loop-advisory l = IsIndex l.table (take l.advisory-index l.advisories)

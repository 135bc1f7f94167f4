use Rattle.std.proofs.Common.{take}
use Rattle.std.specs.Option.{option_copied}
use Rattle.newest.specs.Newest.{PicksNewest}
use Rattle.newest.proofs.newest.Given as goal

-- the newest so far
abbrev pub invariant-loop-version : goal.invariant-loop-version
invariant-loop-version l = PicksNewest l.set (take l.version-index l.versions) (option_copied l.newest)

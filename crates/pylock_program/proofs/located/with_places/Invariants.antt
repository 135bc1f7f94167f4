use Rattle.std.proofs.Common.{take}
use Rattle.pylock_program.specs.Located.{AreLocated}
use Rattle.pylock_program.proofs.located.with_places.Given as goal

-- the findings so far, each at its place
abbrev pub invariant-loop-one : goal.invariant-loop-one
invariant-loop-one l = AreLocated l.bytes (take l.one-index l.found) l.located.items

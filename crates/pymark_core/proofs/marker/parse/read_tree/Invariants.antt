use Rattle.std.proofs.Common.{length}
use Rattle.pymark_core.proofs.Lemmas.Building.Kept.{Reading}
use Rattle.pymark_core.specs.Inner.Building.{state_view}
use Rattle.pymark_core.proofs.marker.parse.read_tree.Given as goal

abbrev pub invariant-loop-stage : goal.invariant-loop-stage
invariant-loop-stage l = Reading l.fn.text l.rest (state_view l.builder l.stage) l.notes

abbrev pub decreases-loop-stage : goal.decreases-loop-stage
decreases-loop-stage l = length l.rest

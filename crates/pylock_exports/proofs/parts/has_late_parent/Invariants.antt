use Rattle.pylock_exports.proofs.ParentLemmas.{LateAt}
use Rattle.pylock_exports.proofs.parts.has_late_parent.Given as goal

abbrev pub invariant-loop-part : goal.invariant-loop-part
invariant-loop-part l = LateAt l.fn.path l.part-iterator l.is_behind

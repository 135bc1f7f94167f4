use Rattle.pylock_exports.proofs.StepLemmas.{StepsAt}
use Rattle.pylock_exports.proofs.file_names.last_step.Given as goal

abbrev pub invariant-loop-part : goal.invariant-loop-part
invariant-loop-part l = StepsAt l.fn.before l.fn.path l.part-iterator l.last

use Rattle.std.proofs.Common.{◌≡◌, None, drop}
use Rattle.pywheel_core.specs.Choice.{rank_from}
use Rattle.pywheel_core.proofs.choice.best_rank.Given as goal

abbrev pub invariant-loop-tag : goal.invariant-loop-tag
invariant-loop-tag l = rank_from l.best (drop l.tag-index l.tag-items) l.tags ≡ rank_from None l.fn.wheel.tags l.fn.tags

use Rattle.std.proofs.Common.{◌≡◌, None, drop, option_map}
use Rattle.pywheel_core.specs.Choice.{best_from}
use Rattle.pywheel_core.specs.Inner.Lent.{ranked_wheel}
use Rattle.pywheel_core.proofs.choice.best_ranked.Given as goal

abbrev pub invariant-loop-position : goal.invariant-loop-position
invariant-loop-position l = best_from (option_map ranked_wheel l.best) l.position (drop l.position l.wheels) l.tags ≡ best_from None 0 l.fn.wheels l.fn.tags

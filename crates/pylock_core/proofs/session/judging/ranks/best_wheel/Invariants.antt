use Rattle.std.proofs.Common.{◌≡◌, None, drop, option_map}
use Rattle.pywheel_core.specs.Choice.{best_from}
use Rattle.pylock_core.specs.Inner.Judging.Ranks.{AreRanks, with_build}
use Rattle.pylock_core.specs.Inner.Tables.TagSets.{names_in}
use Rattle.pylock_core.proofs.session.judging.ranks.best_wheel.Given as goal

-- the best of the wheels so far, with those that are left
abbrev pub invariant-loop-wheel : goal.invariant-loop-wheel
invariant-loop-wheel l = record {
  best : best_from (option_map (with_build (names_in l.entry)) l.best) l.wheel (drop l.wheel (names_in l.entry)) l.tags ≡ best_from None 0 (names_in l.entry) l.tags;
  ranks : AreRanks l.parts.sets l.tags l.ranks;
}

use Rattle.std.proofs.Common.{◌≡◌, flat_map, take}
use Rattle.pylock_exports.specs.Inner.{all_lent}
use Rattle.pylock_exports.specs.Listed.{picked_source}
use Rattle.pylock_exports.proofs.listed.plan_sources.Given as goal

-- the sources of the picks so far are in the list
abbrev pub invariant-loop-pick : goal.invariant-loop-pick
invariant-loop-pick l = all_lent l.list.items ≡ flat_map (picked_source l.session.state) (take l.pick-index l.picks)

use Rattle.std.proofs.Common.{◌≡◌, [], drop}
use Rattle.std.specs.BTreeMap.{get_by_text}
use Rattle.pylock_exports.specs.Inner.{all_lent, Holds}
use Rattle.pylock_exports.specs.Lists.{with_sources}
use Rattle.pylock_exports.proofs.lists.kept_sources.Given as goal

-- those so far, and what is left with them is what the whole is; the table has the values of those
abbrev pub invariant-loop-listed : goal.invariant-loop-listed
invariant-loop-listed l =
    (with_sources l.format (all_lent l.kept.items) (all_lent (drop l.listed-index l.list)) ≡ with_sources l.format [] (all_lent l.list))
    × Holds l.format (get_by_text l.values) (all_lent l.kept.items)

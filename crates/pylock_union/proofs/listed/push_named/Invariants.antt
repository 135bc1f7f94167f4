use Rattle.std.proofs.Common.{◌≡◌, ◌++◌, map, option_copied, option_map, take}
use Rattle.pylock_metadata.specs.View.{entry_view}
use Rattle.pylock_core.specs.Session.Picks.{lent_named}
use Rattle.pylock_union.specs.Listed.{all_lent, lock_source}
use Rattle.pylock_union.proofs.listed.push_named.Given as goal

-- the sources so far are in the list
abbrev pub invariant-loop-one : goal.invariant-loop-one
invariant-loop-one l =
    all_lent l.list.items ≡ all_lent l.fn.list.items
    ++ map (lock_source l.of_entry.lock l.of_entry.number l.of_entry.entry.now (option_map entry_view (option_copied l.of_entry.metadata))) (map lent_named (take l.one-index l.named))

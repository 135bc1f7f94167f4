use Rattle.std.proofs.Common.{◌≡◌, ◌++◌, drop, option_copied, option_map}
use Rattle.pylock_metadata.specs.View.{metadata_view}
use Rattle.pylock_union.specs.Listed.{all_lent, sources_from}
use Rattle.pylock_union.proofs.listed.push_sources.Given as goal

-- the sources of the entries that are left are still to be added
abbrev pub invariant-loop-place : goal.invariant-loop-place
invariant-loop-place l =
    all_lent l.list.items ++ sources_from l.lock (option_map metadata_view (option_copied l.metadata)) l.place (drop l.place l.entries)
    ≡ all_lent l.fn.list.items ++ sources_from l.lock (option_map metadata_view (option_copied l.metadata)) 0 l.entries

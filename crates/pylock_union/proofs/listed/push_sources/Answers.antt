use Rattle.std.proofs.Common.{◌∙◌, ◌++◌, ◌+◌, ap, append_assoc, drop, map, option_copied, option_map, sym}
use Rattle.pylock_metadata.specs.View.{metadata_view}
use Rattle.pylock_core.specs.Session.Picks.{sources}
use Rattle.pylock_union.specs.Listed.{all_lent, entry_metadata, lock_source, sources_from}
use Rattle.pylock_union.proofs.FirstLemmas.{next}
use Rattle.pylock_union.proofs.listed.push_sources.Goals as goal

pub loop-place-preserved : goal.loop-place-preserved
loop-place-preserved c =
    let entries = c.args.entries.now in
    let lock = c.args.lock in
    let metadata = option_map metadata_view (option_copied c.args.metadata) in
    let place = c.loop-place.place in
    let entry = c.index-entries-place.result in
    let own = map (lock_source lock (place + 1) entry (entry_metadata metadata place)) (sources entry) in
    let rest = drop (place + 1) entries in
    let so_far = all_lent c.loop-place.list.items in
    ap (λ list. list ++ sources_from lock metadata (place + 1) rest)
    (c.in_ok-push_entry.ensures ∙ ap (λ m. so_far ++ map (lock_source lock (place + 1) entry m) (sources entry)) c.entry_metadata.ensures)
    ∙ append_assoc so_far own (sources_from lock metadata (place + 1) rest)
    ∙ ap (λ left. so_far ++ sources_from lock metadata place left) (sym (next entries place entry c.loop-place-test.true c.index-entries-place.is))
    ∙ c.loop-place.invariant

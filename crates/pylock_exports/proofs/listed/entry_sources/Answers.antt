use Rattle.std.proofs.Common.{◌∙◌, ◌++◌, ◌+◌, ap, append_assoc, drop, map, sym}
use Rattle.pylock_core.specs.Session.Picks.{sources}
use Rattle.pylock_exports.specs.Inner.{all_lent}
use Rattle.pylock_exports.specs.Listed.{listed, sources_from}
use Rattle.pylock_exports.proofs.NextLemmas.{next}
use Rattle.pylock_exports.proofs.listed.entry_sources.Goals as goal

pub loop-place-preserved : goal.loop-place-preserved
loop-place-preserved c =
    let entries = c.args.entries.now in
    let place = c.loop-place.place in
    let entry = c.index-entries-place.result in
    let own = map (λ s. listed (place + 1) entry s.1) (sources entry) in
    let rest = drop (place + 1) entries in
    let so_far = all_lent c.loop-place.list.items in
    ap (λ list. list ++ sources_from (place + 1 + 1) rest) c.in_ok-push_sources.ensures
    ∙ append_assoc so_far own (sources_from (place + 1 + 1) rest)
    ∙ ap (λ left. so_far ++ sources_from (place + 1) left) (sym (next entries place entry c.loop-place-test.true c.index-entries-place.is))
    ∙ c.loop-place.invariant

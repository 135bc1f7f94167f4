use Rattle.pylock_core.specs.Session.Picks.{lent_source}
use Rattle.pylock_diff.specs.Files.{places_told}
use Rattle.pylock_diff.proofs.TextLemmas.{told_more}
use Rattle.pylock_diff.proofs.places.push_places.Goals as goal

pub loop-file-preserved : goal.loop-file-preserved
loop-file-preserved c =
    told_more lent_source (λ file. places_told c.args.name.now) c.args.files.now c.deref-file-items.result.now c.loop-file.file-index _
    c.old.result.now c.new_values.result.now c.args.changes.now.items c.loop-file.changes.items _
    c.loop-file-test.true c.old.ensures c.new_values.ensures c.in_ok-push_place.ensures c.loop-file.invariant

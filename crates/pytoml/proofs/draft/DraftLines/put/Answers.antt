use Rattle.std.proofs.Common.{refl, string_bytes}
use Rattle.toml.specs.View.{view}
use Rattle.pytoml.proofs.Levels.{pair_put}
use Rattle.pytoml.proofs.draft.DraftLines.put.Goals as goal

pub returns-clause-puts : goal.returns-clause-puts
returns-clause-puts c = λ doc stands.
    let old = c.args.self.now in
    let new = record old { table = c.insert_new.new.table } in
    let (next, defined, now) = pair_put old new doc (string_bytes c.args.key) (view c.in_ok-value.value) stands refl c.in_ok-insert_new.ensures.absent c.in_ok-insert_new.ensures.put in
    (view c.in_ok-value.value, next, c.in_ok-value.ensures.value, defined, now)

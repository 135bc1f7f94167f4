use Rattle.toml.proofs.Views.{view-Array, view-Table, items_view-push}
use Rattle.pytoml.proofs.draft.closed.Goals as goal

pub returns-in_ok-push-in-Element : goal.returns-in_ok-push-in-Element
returns-in_ok-push-in-Element c =
    rw (c.in-Element.is, view-Array c.push.new.self, c.in_ok-push-in-Element.ensures.items, items_view-push c.in-Element.done.items _, view-Table c.args.inner)

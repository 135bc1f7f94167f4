use Rattle.std.proofs.Common.{◌≡◌, sym}
use Rattle.toml.specs.Data.{push_item, table}
use Rattle.toml.specs.View.{array_view, table_view}
use Rattle.toml.proofs.Views.{view-Table, items_view-push}
use Rattle.pytoml.proofs.Levels.{is_element}
use Rattle.pytoml.proofs.draft.Level.with_element.Goals as goal

pub returns : goal.returns
returns c = λ r h.
    let done = c.in-Element.done in
    let more : array_view c.push.new.self ≡ push_item (array_view done) (table (table_view c.args.element)) =
    rw (c.in_ok-push.ensures.items, items_view-push done.items _, view-Table c.args.element) in
    (array_view done, is_element c.args.self.kind r.opened done c.in-Element.is h.kind, record { around = h.around; key = h.key; kind = sym more })

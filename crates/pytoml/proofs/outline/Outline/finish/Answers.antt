use Rattle.toml.specs.View.{table_view}
use Rattle.pytoml.proofs.Outlines.{left_closed, left_lacks}
use Rattle.pytoml.proofs.outline.Outline.finish.Goals as goal

pub returns : goal.returns
returns g c = λ doc stands.
    let o = c.leave.new.self in
    let (taken, holds, left) = c.in_ok-leave.ensures doc stands in
    let ms = table_view c.in_ok-finish.field-0 in
    let key = g.E.Elements.key in (
      taken,
      holds,
      left_closed key taken o.place o.root doc ms left c.in_ok-finish.ensures,
      left_lacks key taken o.place o.root doc ms left c.in_ok-finish.ensures,
    )

use Rattle.std.proofs.Common.{◌∙◌, refl, sym, subst}
use Rattle.toml.specs.Data.{push_item, table}
use Rattle.toml.specs.View.{table_view}
use Rattle.pytoml.specs.Outline.{LeftBy, StandsAt}
use Rattle.pytoml.proofs.Outlines.{left_behind}
use Rattle.pytoml.proofs.outline.Outline.leave.Goals as goal

pub returns-in_ok-take-in-Within : goal.returns-in_ok-take-in-Within
returns-in_ok-take-in-Within g c = λ doc stands.
    let (taken, holds, at) = stands in
    let o = c.args.self.now in
    let key = g.E.Elements.key in
    let ms = table_view c.in_ok-finish-in-Within.field-0 in
    let now = push_item taken (table ms) in
    let within = subst (λ p. StandsAt key taken o.root p doc) (sym c.replace.ensures.value ∙ c.in-Within.is) at in
    subst (λ p. LeftBy (g.E.Elements.holds c.take.new.self) key o.root p doc) (sym c.replace.ensures.after)
    (now, c.in_ok-take-in-Within.ensures taken holds, left_behind key taken now o.root c.in-Within.element doc ms within c.in_ok-finish-in-Within.ensures refl)

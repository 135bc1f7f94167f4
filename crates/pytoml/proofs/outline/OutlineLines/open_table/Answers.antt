use Rattle.std.proofs.Common.{◌≡◌, ◌∙◌, ◌∷◌, Some, sym, ap, subst}
use Rattle.std.specs.Prelude.{OnOk}
use Rattle.toml_parser.specs.Reading.{key_view}
use Rattle.toml.specs.Tables.{Document, std_table, define}
use Rattle.pytoml.specs.Outline.{StandsAt, StandsBy, first_part}
use Rattle.pytoml.specs.declared.outline.Place.TheVariants.{Within}
use Rattle.pytoml.proofs.Outlines.{before_defined, left_defined, of_table, on_ok_over, sparing_table, within_defined}
use Rattle.pytoml.proofs.Others.{same_is}
use Rattle.pytoml.proofs.Results.{on_ok_then}
use Rattle.pytoml.proofs.outline.OutlineLines.open_table.Goals as goal

pub returns-then-not-is_ours : goal.returns-then-not-is_ours
returns-then-not-is_ours g c = λ doc stands.
    let o = c.leave.new.self in
    let first = first_part (key_view c.args.key) in
    let other = sym c.is_ours.ensures ∙ c.if-not-is_ours.true in
    let (taken, holds, left) = c.in_ok-leave.ensures doc stands in
    on_ok_over _ g.E.Elements.key taken c.open_table.new.self o.place _ c.open_table.result holds (left_defined std_table of_table g.E.Elements.key taken o.place o.root c.open_table.new.self c.open_table.result (key_view c.args.key) doc left other c.open_table.ensures)

pub returns-in-Before : goal.returns-in-Before
returns-in-Before g c = λ doc stands.
    let o = c.args.self.now in
    let key = g.E.Elements.key in
    let (taken, holds, at) = stands in
    let before = subst (λ p. StandsAt key taken o.root p doc) c.in-Before.is at in
    let n = c.open_table-in-Before.new.self in
    let r = c.open_table-in-Before.result in
    on_ok_then r (λ made. (made.0, made.1, (taken, holds, subst (λ p. StandsAt key taken n p made.0) (sym c.in-Before.is) made.2)))
    (before_defined std_table of_table key taken o.root n r (key_view c.args.key) doc before (sparing_table key (key_view c.args.key)) c.open_table-in-Before.ensures)

pub returns-in_ok-without_first-in-Within : goal.returns-in_ok-without_first-in-Within
returns-in_ok-without_first-in-Within g c = λ doc stands.
    let o = c.args.self.now in
    let key = g.E.Elements.key in
    let (taken, holds, at) = stands in
    let rest = key_view c.in_ok-without_first-in-Within.field-0 in
    let first = first_part (key_view c.args.key) in
    let ours : first ≡ key = same_is first key (sym c.is_ours.ensures ∙ c.if-not-is_ours.false) in
    let parts = c.in_ok-without_first-in-Within.ensures ∙ ap (λ k. (k ∷ rest.0, rest.1)) ours in
    let within = subst (λ p. StandsAt key taken o.root p doc) c.in-Within.is at in
    subst (λ k. OnOk c.open_table-in-Within.result ((next : Document) × (define doc (k, std_table) ≡ Some next) × StandsBy (g.E.Elements.holds o.elements) key o.root (Within c.open_table-in-Within.new.self) next)) (sym parts)
    (on_ok_over _ key taken o.root (Within c.open_table-in-Within.new.self) _ c.open_table-in-Within.result holds (within_defined std_table of_table key taken o.root c.in-Within.element c.open_table-in-Within.new.self c.open_table-in-Within.result rest doc within c.open_table-in-Within.ensures))

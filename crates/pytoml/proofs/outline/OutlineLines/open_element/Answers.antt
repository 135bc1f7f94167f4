use Rattle.std.proofs.Common.{◌≡◌, ◌==◌, ◌∙◌, ◌∷◌, [], Some, false, length, string_bytes, sym, ap, subst, arith}
use Rattle.std.proofs.lemmas.Bool.Decides.{nat_tests}
use Rattle.std.proofs.lemmas.Grind.{common_steps}
use Rattle.std.specs.Prelude.{OnOk}
use Rattle.toml_parser.specs.Reading.{key_view, path_view}
use Rattle.toml.specs.Tables.{Document, array_table, define}
use Rattle.toml.proofs.Turns.{path_view-none}
use Rattle.pytoml.specs.Outline.{StandsAt, StandsBy, first_part}
use Rattle.pytoml.specs.declared.outline.Place.TheVariants.{Within}
use Rattle.pytoml.proofs.Outlines.{before_defined, left_defined, of_array, on_ok_over, sparing_path, within_defined}
use Rattle.pytoml.proofs.Others.{same_is}
use Rattle.pytoml.proofs.Results.{on_ok_then}
use Rattle.pytoml.proofs.outline.OutlineLines.open_element.Goals as goal

pub returns-then-not-is_ours : goal.returns-then-not-is_ours
returns-then-not-is_ours g c = λ doc stands.
    let o = c.leave.new.self in
    let first = first_part (key_view c.args.key) in
    let other = sym c.is_ours.ensures ∙ c.if-not-is_ours.true in
    let (taken, holds, left) = c.in_ok-leave.ensures doc stands in
    on_ok_over _ g.E.Elements.key taken c.open_element.new.self o.place _ c.open_element.result holds (left_defined array_table of_array g.E.Elements.key taken o.place o.root c.open_element.new.self c.open_element.result (key_view c.args.key) doc left other c.open_element.ensures)

pub returns-in-Before : goal.returns-in-Before
returns-in-Before g c = λ doc stands.
    let o = c.args.self.now in
    let key = g.E.Elements.key in
    let (taken, holds, at) = stands in
    let before = subst (λ p. StandsAt key taken o.root p doc) c.in-Before.is at in
    let some : (length c.args.key.path.items == 0) ≡ false = grind (arith, nat_tests, common_steps) in
    let n = c.open_element-in-Before.new.self in
    let r = c.open_element-in-Before.result in
    on_ok_then r (λ made. (made.0, made.1, (taken, holds, subst (λ p. StandsAt key taken n p made.0) (sym c.in-Before.is) made.2)))
    (before_defined array_table of_array key taken o.root n r (key_view c.args.key) doc before (sparing_path key (string_bytes c.args.key.last) c.args.key.path.items array_table some) c.open_element-in-Before.ensures)

pub returns-in_ok-without_first-in-Within : goal.returns-in_ok-without_first-in-Within
returns-in_ok-without_first-in-Within g c = λ doc stands.
    let o = c.args.self.now in
    let key = g.E.Elements.key in
    let (taken, holds, at) = stands in
    let rest = key_view c.in_ok-without_first-in-Within.field-0 in
    let first = first_part (key_view c.args.key) in
    let ours : first ≡ key = same_is first key (sym c.is_ours.ensures ∙ c.if-not-is_ours.false) in
    let parts = c.in_ok-without_first-in-Within.ensures ∙ ap (λ k. (k ∷ rest.0, rest.1)) ours in
    let within = subst (λ p. StandsAt key taken o.root p doc) c.in-Within.is at in
    subst (λ k. OnOk c.open_element-in-Within.result ((next : Document) × (define doc (k, array_table) ≡ Some next) × StandsBy (g.E.Elements.holds o.elements) key o.root (Within c.open_element-in-Within.new.self) next)) (sym parts)
    (on_ok_over _ key taken o.root (Within c.open_element-in-Within.new.self) _ c.open_element-in-Within.result holds (within_defined array_table of_array key taken o.root c.in-Within.element c.open_element-in-Within.new.self c.open_element-in-Within.result rest doc within c.open_element-in-Within.ensures))

pub returns-then-is_empty : goal.returns-then-is_empty
returns-then-is_empty g c =
    let path = c.args.key.path.items in
    let o = c.args.self.now in
    let none : length path ≡ 0 = grind (arith, nat_tests, common_steps) in
    let no_path : path_view path ≡ [] = path_view-none path (omega (arith, none)) in
    let last = string_bytes c.args.key.last in
    let first : first_part (key_view c.args.key) ≡ last = ap (λ p. first_part (p, last)) no_path in
    let ours : last ≡ g.E.Elements.key = sym first ∙ same_is (first_part (key_view c.args.key)) g.E.Elements.key (sym c.is_ours.ensures ∙ c.if-not-is_ours.false) in
    let parts : key_view c.args.key ≡ ([], g.E.Elements.key) = ap (λ p. (p, last)) no_path ∙ ap (λ k. ([], k)) ours in
    let n = c.next_element.new.self in
    subst (λ k. (doc : Document) → StandsBy (g.E.Elements.holds o.elements) g.E.Elements.key o.root o.place doc
    → OnOk c.next_element.result ((next : Document) × (define doc (k, array_table) ≡ Some next) × StandsBy (g.E.Elements.holds n.elements) g.E.Elements.key n.root n.place next)) (sym parts) c.next_element.ensures

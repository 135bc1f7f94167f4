use Rattle.std.proofs.Common.{◌≡◌, ◌∙◌, [], Some, sym, ap, subst}
use Rattle.toml.specs.Tables.{Document, array_table, define, get_node}
use Rattle.pytoml.specs.Outline.{IsLeft, StandsBy}
use Rattle.pytoml.specs.declared.outline.Place.TheVariants.{Within}
use Rattle.pytoml.proofs.Outlines.{behind_left, first_begun, next_begun, over}
use Rattle.pytoml.proofs.outline.Outline.next_element.Goals.{in-Before+in_ok-close_without-in-Before, in_default}
use Rattle.pytoml.proofs.outline.Outline.next_element.Goals as goal

pub returns : goal.returns
returns g c = λ doc stands.
    let o = c.leave.new.self in
    let key = g.E.Elements.key in
    let element = c.new.result in
    let (taken, holds, left) = c.in_ok-leave.ensures doc stands in
    elim c.match-self.branch [
      | in-Before+in_ok-close_without-in-Before w ↦
          let before = subst (λ p. IsLeft key taken o.root p doc) w.in-Before.is left in
          let found = w.in_ok-close_without-in-Before.ensures doc before.1 in
          let absent = ap (λ k. get_node k doc.0) (sym w.key.ensures) ∙ found.1 in
          subst (λ s. (next : Document) × (define doc (([], key), array_table) ≡ Some next) × StandsBy (g.E.Elements.holds s.elements) key s.root (Within element) next) (sym w.self-is)
          (over _ key taken w.close_without.new.self (Within element) _ holds (first_begun key taken w.close_without.new.self element doc before.0 found.0 absent c.new.ensures))
      | in_default w ↦
          subst (λ s. (next : Document) × (define doc (([], key), array_table) ≡ Some next) × StandsBy (g.E.Elements.holds s.elements) key s.root (Within element) next) (sym w.self-is)
          (over _ key taken o.root (Within element) _ holds (next_begun key taken o.root element doc (behind_left key taken o.place o.root doc w.in_default.not-Before w.in_default.not-Inline left) c.new.ensures))
    ]

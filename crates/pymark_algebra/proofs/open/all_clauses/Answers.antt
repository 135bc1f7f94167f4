use Rattle.std.proofs.Common.{◌≡◌, ◌<◌, ◌++◌, ◌∷◌, ◌∙◌, List, [], Ok, ap, arith, length, subst, sym}
use Rattle.std.specs.Global.{Global}
use Rattle.std.specs.declared.vec.Vec.{Vec}
use Rattle.pymark_core.specs.Environment.{EnvironmentValue}
use Rattle.pymark_core.specs.Marker.Value.{marker_value}
use Rattle.pymark_clauses.specs.Clauses.{SomeHolds}
use Rattle.pymark_clauses.specs.declared.clauses.Literal.{Literal}
use Rattle.pymark_algebra.specs.Questions.{Has}
use Rattle.pymark_algebra.specs.declared.answer.Condition.{Condition}
use Rattle.pymark_algebra.proofs.ClauseLemmas.{at_some, start_holds}
use Rattle.pymark_algebra.proofs.open.all_clauses.Goals as goal

pub loop-condition-init : goal.loop-condition-init
loop-condition-init c = λ e have. start_holds e c.push.new.self.items c.new.result
    (c.in_ok-push.ensures.items ∙ ap (λ (l : List (Vec Literal Global)). l ++ c.new.result ∷ []) c.new-clauses.ensures.items) c.new.ensures.items

pub loop-condition-preserved : goal.loop-condition-preserved
loop-condition-preserved c = λ e have.
    let condition = c.condition-item.result in
    let below : c.loop-condition.condition-index < length c.args.conditions.now = omega arith in
    let has : Has e condition.marker.now.tree condition.wanted =
    subst (λ (x : Condition). Has e x.marker.now.tree x.wanted) (sym c.condition-item.is) (have c.loop-condition.condition-index condition below) in
    let more : SomeHolds e c.in-Some.more.items =
    at_some (λ (v : Vec (Vec Literal Global) Global). (e : EnvironmentValue) → marker_value e condition.marker.now.tree ≡ Ok condition.wanted → SomeHolds e v.items)
    c.in_ok-more.field-0 c.in-Some.more c.in_ok-more.ensures.holds c.in-Some.is e has in
    at_some (λ (v : Vec (Vec Literal Global) Global). (e : EnvironmentValue) → SomeHolds e c.deref.result.now
    → SomeHolds e c.deref-in-loop-condition.result.now → SomeHolds e v.items)
    c.in_ok-joined.field-0 c.in-Some-2.joined c.in_ok-joined.ensures.holds c.in-Some-2.is e
    (subst (SomeHolds e) (sym c.deref.ensures.value) (c.loop-condition.invariant e have))
    (subst (SomeHolds e) (sym c.deref-in-loop-condition.ensures.value) more)

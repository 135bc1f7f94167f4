use Rattle.std.proofs.Common.{◌≡◌, ◌∙◌, ap, sym, subst, refl, ◌∷◌}
use Rattle.std.proofs.lemmas.Result.{err_from_is_err_and}
use Rattle.pytext.specs.Results.{◌>>=◌}
use Rattle.pymark_core.specs.Environment.{EnvironmentValue}
use Rattle.pymark_core.specs.Marker.Value.{AgreeAt}
use Rattle.pymark_core.specs.declared.marker.keys.Key.{Key}
use Rattle.pymark_core.specs.declared.marker.keys.Key.TheVariants.{Of, Extras, Groups}
use Rattle.pylock_core.specs.Inner.Parts.{state_of}
use Rattle.pylock_core.specs.Session.State.{after_names}
use Rattle.pylock_core.specs.Session.State.{in_environment}
use Rattle.pylock_core.proofs.session.editing.environment.change_names.Goals as goal

agree_alike : (key : Key) (e : EnvironmentValue) → AgreeAt key e e
agree_alike (Of variable) e = refl
agree_alike Extras e = refl
agree_alike Groups e = refl

agree_then : (key : Key) (e f g : EnvironmentValue) → AgreeAt key e f → AgreeAt key f g → AgreeAt key e g
agree_then (Of variable) e f g one other = one ∙ other
agree_then Extras e f g one other = one ∙ other
agree_then Groups e f g one other = one ∙ other

pub loop-name-init : goal.loop-name-init
loop-name-init c =
    let p = c.args.parts.now in
    let names = c.args.names.items in
    record {
      leads = ap (λ e. after_names c.args.change names (in_environment e (state_of p))) (sym c.requires.same)
          ∙ ap (λ names. after_names c.args.change names (in_environment c.args.edited.now.environment (state_of p))) (sym c.into_iter-name-iterator.ensures.into_iter_gives.0);
      differ = λ other apart. subst (AgreeAt other p.environment) (sym c.requires.same) (agree_alike other p.environment);
      changes = c.requires.leads;
    }

pub loop-name-preserved : goal.loop-name-preserved
loop-name-preserved c =
    let change = c.args.change in
    let start = c.args.parts.now.environment in
    let before = in_environment c.loop-name.edited.environment (state_of c.args.parts.now) in
    let rest = c.next.new.self.rest.items in
    record {
      leads = c.loop-name.invariant.leads ∙ ap (λ names. after_names change names before) c.in-Some.ensures.steps.0
          ∙ ap (λ next. next >>= after_names change rest) (c.in_ok-change_name.ensures.ok before refl refl);
      differ = λ other apart. agree_then other start c.loop-name.edited.environment c.change_name.new.edited.environment
          (c.loop-name.invariant.differ other apart) (c.in_ok-change_name.ensures.differ other apart);
      changes = c.in_ok-change_name.ensures.leads start c.loop-name.invariant.changes;
    }

pub returns-in_err-change_name-clause-refused : goal.returns-in_err-change_name-clause-refused
returns-in_err-change_name-clause-refused c =
    let change = c.args.change in
    let before = in_environment c.loop-name.edited.environment (state_of c.args.parts.now) in
    let rest = c.next.new.self.rest.items in
    let p = err_from_is_err_and c.from_residual.result c.from_residual.ensures.1 in
    rw (p.1, p.2) (λ other. c.loop-name.invariant.leads ∙ ap (λ names. after_names change names before) c.in-Some.ensures.steps.0
    ∙ ap (λ next. next >>= after_names change rest) (c.in_err-change_name.ensures.refused other before refl))

use Rattle.std.proofs.Common.{◌≡◌, ◌∙◌, ◌++◌, subst, ap, sym, ℕ, List, map, get_or, set, Option, Some, None, Ok, refl}
use Rattle.std.proofs.lemmas.Result.{err_from_is_err_and}
use Rattle.pymark_core.specs.Change.{changed, changed_key}
use Rattle.pymark_core.specs.Marker.Value.{AgreeAt}
use Rattle.std.proofs.lemmas.List.{get_or-set_other}
use Rattle.std.specs.FinSet as set_of
use Rattle.pymark_core.specs.declared.change.Change.{Change}
use Rattle.pymark_core.specs.declared.change.Change.TheVariants as change
use Rattle.pymark_core.specs.Environment.{EnvironmentValue, Texts}
use Rattle.pymark_core.specs.declared.marker.keys.Key.{Key}
use Rattle.pymark_core.specs.declared.marker.keys.Key.TheVariants.{Of, Extras, Groups}
use Rattle.pymark_core.specs.Variables.{variable_number}
use Rattle.pymark_core.specs.declared.variable.Var.{Var}
use Rattle.pylock_core.specs.Inner.Parts.{state_of}
use Rattle.pylock_core.specs.Session.Judgement.{IndexKey, Marked, OfTags, keys, readers}
use Rattle.pylock_core.specs.Session.State.{in_environment}
use Rattle.pylock_core.proofs.Lemmas.Judging.Judgement.{at_place}
use Rattle.pylock_core.proofs.session.editing.environment.edit_environment.Goals as goal

-- the key of a marker, the tags apart
abbrev marked_key : IndexKey → Key
marked_key (Marked key) = key
marked_key OfTags = Extras

one_number : (v w : Var) → variable_number v ≡ variable_number w → Of v ≡ Of w
one_number v w same =
    sym (at_place marked_key Extras (Marked (Of v))) ∙ ap (λ n. get_or (map marked_key keys) n Extras) same ∙ at_place marked_key Extras (Marked (Of w))

text_apart : (e : EnvironmentValue) (variable : Var) (text : Option (List ℕ)) (other : Key) → (other ≡ Of variable → ⊥)
    → AgreeAt other e (record e { variables = set e.variables (variable_number variable) text })
text_apart e variable text (Of v) apart = sym (get_or-set_other e.variables (variable_number variable) (variable_number v) text None (λ same. apart (one_number v variable same)))
text_apart e variable text Extras apart = refl
text_apart e variable text Groups apart = refl

extras_apart : (e : EnvironmentValue) (names : Texts) (other : Key) → (other ≡ Extras → ⊥) → AgreeAt other e (record e { extras = names })
extras_apart e names (Of v) apart = refl
extras_apart e names Extras apart = absurd (apart refl)
extras_apart e names Groups apart = refl

groups_apart : (e : EnvironmentValue) (names : Texts) (other : Key) → (other ≡ Groups → ⊥) → AgreeAt other e (record e { groups = names })
groups_apart e names (Of v) apart = refl
groups_apart e names Extras apart = refl
groups_apart e names Groups apart = absurd (apart refl)

changed_differs : (change : Change) (e : EnvironmentValue) (other : Key) → (other ≡ changed_key change → ⊥) → AgreeAt other e (changed change e)
changed_differs (change.Set variable text) e other apart = text_apart e variable (Some text) other apart
changed_differs (change.Unset variable) e other apart = text_apart e variable None other apart
changed_differs (change.AddExtra name) e other apart = extras_apart e (set_of.insert e.extras name) other apart
changed_differs (change.DropExtra name) e other apart = extras_apart e (set_of.remove e.extras name) other apart
changed_differs (change.AddGroup name) e other apart = groups_apart e (set_of.insert e.groups name) other apart
changed_differs (change.DropGroup name) e other apart = groups_apart e (set_of.remove e.groups name) other apart

pub change_environment-requires-clause-differ : goal.change_environment-requires-clause-differ
change_environment-requires-clause-differ c = λ other apart.
    let old = c.begin_edit.new.parts.environment in
    let same : c.in_ok-edited.edited.environment ≡ old = c.in_ok-edited.ensures.same ∙ ap (λ p. p.environment) (sym c.in_ok-edited.ensures.kept) in
    let made : c.apply.new.self.environment ≡ changed c.args.change old = c.in_ok-apply.ensures.ok ∙ ap (changed c.args.change) same in
    subst (AgreeAt other old) (sym made) (changed_differs c.args.change old other (λ same. apart (same ∙ sym c.key-key.ensures)))

pub returns-in_err-check_named-clause-left : goal.returns-in_err-check_named-clause-left
returns-in_err-check_named-clause-left c =
    let p = err_from_is_err_and c.from_residual.result c.from_residual.ensures.1 in
    rw (p.1, p.2) (record {
      reason = λ other. c.in_err-check_named.ensures.refused (state_of c.args.parts.now) refl;
      memory = λ is. refl;
      kept = refl;
    })

pub returns-clause-left : goal.returns-clause-left
returns-clause-left c =
    let start = c.args.parts.now in
    let kept = c.in_ok-edited.ensures.kept in
    let made : c.apply.new.self.environment ≡ changed c.args.change start.environment =
    c.in_ok-apply.ensures.ok ∙ ap (changed c.args.change) c.in_ok-edited.ensures.same in
    record {
      applied = c.in_ok-check_named.ensures.ok (state_of start) refl
          ∙ ap Ok (sym (c.in_ok-change_environment.ensures.ok ∙ (λ i. in_environment (made i) (state_of (kept i)))));
      judged = c.in_ok-change_environment.ensures.judged
          ∙ (λ i. c.args.judged.now ++ readers (Marked (c.key-key.ensures i)) (state_of (kept i)));
    }

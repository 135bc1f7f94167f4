use Rattle.std.proofs.Common.{◌≡◌, ◌∙◌, ◌++◌, ◌∷◌, [], ap, sym, refl, List, unwrap_or}
use Rattle.std.specs.Global.{Global}
use Rattle.std.specs.Prelude.{IfSome, Option, None, Some, option_map}
use Rattle.std.specs.declared.vec.Vec.{Vec}
use Rattle.pymark_core.specs.Change.{changed}
use Rattle.pymark_core.specs.Environment.{EnvironmentValue}
use Rattle.pymark_core.specs.declared.change.Change.{Change}
use Rattle.pylock_core.specs.Inner.KeptEnvironment.{changed_by}
use Rattle.pylock_core.proofs.session.kept_environment.EditedEnvironment.apply.Goals as goal

changed_by-behind : (changes : List Change) (change : Change) (e : EnvironmentValue) → changed_by (changes ++ change ∷ []) e ≡ changed change (changed_by changes e)
changed_by-behind [] change e = refl
changed_by-behind (first ∷ changes) change e = changed_by-behind changes change (changed first e)

-- one more change, kept behind the others
leads_on : (old new : Option (Vec Change Global)) (change : Change) (before e f : EnvironmentValue)
    → option_map (λ kept. kept.items) new ≡ option_map (λ kept. kept.items ++ change ∷ []) old
    → IfSome old (λ changes. changed_by changes.items before ≡ e) → f ≡ changed change e
    → IfSome new (λ changes. changed_by changes.items before ≡ f)
leads_on old None change before e f same leads is = tt
leads_on None (Some new) change before e f same leads is = let no : ◌≡◌ {A = Option (List Change)} (Some new.items) None = same in cc
leads_on (Some old) (Some new) change before e f same leads is =
    ap (λ kept. changed_by (unwrap_or kept []) before) same ∙ changed_by-behind old.items change before ∙ ap (changed change) leads ∙ sym is

pub returns-clause-leads : goal.returns-clause-leads
returns-clause-leads c = λ before leads.
    leads_on c.args.self.now.changes c.keep_change.new.changes c.args.change before c.args.self.now.environment c.apply.new.self
    c.in_ok-keep_change.ensures leads c.in_ok-apply.ensures.ok

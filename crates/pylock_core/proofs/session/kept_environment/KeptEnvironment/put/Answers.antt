use Rattle.std.proofs.Common.{◌≡◌, ◌∙◌, ap, unwrap_or}
use Rattle.std.specs.Global.{Global}
use Rattle.std.specs.Prelude.{IfSome, Option, None, Some, option_map}
use Rattle.std.specs.declared.vec.Vec.{Vec}
use Rattle.pymark_core.specs.Environment.{EnvironmentValue}
use Rattle.pymark_core.specs.declared.change.Change.{Change}
use Rattle.pylock_core.specs.Inner.KeptEnvironment.{changed_by}
use Rattle.pylock_core.proofs.session.kept_environment.KeptEnvironment.put.Goals as goal

-- what the changes make of the one before is as the edited one
is_twin : (twin : Option EnvironmentValue) (changes : Option (Vec Change Global)) (before after : EnvironmentValue)
    → IfSome twin (λ twin. Some twin ≡ option_map (λ changes. changed_by changes.items before) changes)
    → IfSome changes (λ changes. changed_by changes.items before ≡ after)
    → IfSome twin (λ twin. twin ≡ after)
is_twin None changes before after made leads = tt
is_twin (Some twin) None before after made leads = let no : ◌≡◌ {A = Option EnvironmentValue} (Some twin) None = made in cc
is_twin (Some twin) (Some changes) before after made leads = ap (λ made. unwrap_or made twin) made ∙ leads

pub invariant_of-self : goal.invariant_of-self
invariant_of-self c =
    let changes = c.args.edited.changes in
    let was : c.replace-before.result ≡ c.args.self.now = c.replace-before.ensures.value ∙ c.self.view_is in
    let leads : IfSome changes (λ changes. changed_by changes.items c.replace-before.result ≡ c.replace-before.new.dest) =
    rw (was, c.replace-before.ensures.after) c.requires in
    is_twin c.twin_by.result changes c.replace-before.result c.replace-before.new.dest c.twin_by.ensures leads

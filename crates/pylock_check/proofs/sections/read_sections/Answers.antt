use Rattle.std.proofs.Common.{◌≡◌, ◌∙◌, ℕ, List, ◌∷◌, Result, ap, arith, sym}
use Rattle.std.proofs.lemmas.Grind.{common_steps}
use Rattle.toml.specs.View.{members_view, view}
use Rattle.pytext.specs.Results.{◌>>=◌}
use Rattle.pylock_check.specs.Project.{SectionValue}
use Rattle.pylock_check.specs.Sections.{with_section, with_sections}
use Rattle.pylock_check.specs.declared.error.ProjectError.{ProjectError}
use Rattle.pylock_check.proofs.sections.read_sections.Goals as goal

pub loop-key-preserved : goal.loop-key-preserved
loop-key-preserved c =
    let k = c.in-Some.key.now in
    let v = c.in-Some.value.now in
    let rest = c.next.new.self in
    let iter : c.loop-key.key-iterator ≡ (k, v) ∷ rest = grind (arith, common_steps) in
    let old = c.loop-key.sections.items in
    let named = ap (λ (key : List ℕ). with_section c.args.kind old key (view v)) c.as_str.ensures.value in
    let one = sym named ∙ c.in_ok-push_section.ensures in
    ap (λ (r : Result (List SectionValue) ProjectError). r >>= (λ more. with_sections c.args.kind more (members_view rest))) (sym one)
    ∙ rw iter at c.loop-key.invariant

use Rattle.std.proofs.Common.{◌≡◌, ◌∙◌, ◌++◌, ℕ, List, ap, filter, map, not, rules}
use Rattle.std.specs.List.{flat_map}
use Rattle.pylock_installed.specs.Inner.Tables.{found, found_steps, has}
use Rattle.pylock_installed.specs.Project.{ProjectValue, project_named}
use Rattle.pylock_installed.specs.Steps.{is_planned, lent_step, other_step}
use Rattle.pylock_installed.proofs.TableLemmas.{same_steps}
use Rattle.pylock_installed.proofs.step.steps.Goals as goal

pub returns : goal.returns
returns c =
    let state = c.args.session.now.state in
    let picks = c.args.plan.now in
    let installed = c.args.installed.now in
    let table = c.in_ok-projects.projects in
    let planned = c.in_ok-planned.planned in
    let finds : (name : List ℕ) → found table name ≡ project_named name installed =
    λ name. c.in_ok-projects.ensures name ∙ ap (project_named name) c.projects.ensures in
    let names : (project : ProjectValue) → has planned project.name ≡ is_planned state picks project =
    λ project. c.in_ok-planned.ensures project ∙ ap (λ picked. is_planned state picked project) c.picks.ensures in
    let pushed : map lent_step c.push_other_steps.new.steps.items
    ≡ flat_map (found_steps state table) picks ++ map (other_step c.args.is_exact) (filter (λ p. not (has planned p.name)) installed) = search rules in
    pushed ∙ same_steps state picks installed c.args.is_exact (found table) (has planned) finds names

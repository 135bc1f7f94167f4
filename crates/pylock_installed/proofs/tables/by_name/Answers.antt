use Rattle.std.proofs.Common.{◌≡◌, ◌∙◌, ◌+◌, [], ◌∷◌, ◌++◌, ap, sym, take}
use Rattle.std.proofs.lemmas.List.{take_more}
use Rattle.pytext.specs.Options.{either}
use Rattle.pylock_installed.specs.Project.{ProjectValue, project_named}
use Rattle.pylock_installed.proofs.TableLemmas.{named_more, one_named}
use Rattle.pylock_installed.proofs.tables.by_name.Goals as goal

pub loop-project-preserved : goal.loop-project-preserved
loop-project-preserved c = λ name.
    let before = take c.loop-project.project-index c.args.projects.now in
    let project = c.project-item.result in
    let more : take (c.loop-project.project-index + 1) c.args.projects.now ≡ before ++ project ∷ [] =
    take_more c.args.projects.now c.loop-project.project-index project c.loop-project-test.true
    ∙ ap (λ (last : ProjectValue). before ++ last ∷ []) (sym c.project-item.is) in
    c.in_ok-put_first.ensures name
    ∙ ap (λ found. either found (one_named name project)) (c.loop-project.invariant name)
    ∙ sym (named_more name before project)
    ∙ ap (project_named name) (sym more)

use Rattle.std.proofs.Common.{◌≡◌, ◌∙◌, [], ◌∷◌, ◌++◌, ap, rules, string_bytes, sym}
use Rattle.std.specs.BTreeSet.{contains_text}
use Rattle.std.specs.List.{list_any}
use Rattle.pylock_installed.specs.Project.{is_named}
use Rattle.pylock_installed.proofs.TableLemmas.{names_more}
use Rattle.pylock_installed.proofs.reading.push_element.Goals as goal

pub returns-clause-names : goal.returns-clause-names
returns-clause-names c = λ name.
    let listed = c.args.listed.now in
    let project = c.in_ok-project.project in
    let key = string_bytes c.in_ok-name.name in
    let same : key ≡ project.name = search rules in
    let items : c.push.new.self.items ≡ listed.projects.items ++ project ∷ [] = search rules in
    c.in_ok-add_text.ensures.added name
    ∙ names_more key name project listed.projects.items (contains_text listed.names name) same (c.requires name)
    ∙ ap (list_any (is_named name)) (sym items)

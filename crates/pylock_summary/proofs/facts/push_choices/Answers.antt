use Rattle.std.proofs.Common.{◌∙◌, ℕ, List, [], ◌∷◌, ◌++◌, ap, codes}
use Rattle.pylock_summary.specs.Fact.{texts_fact}
use Rattle.pylock_summary.proofs.FactLemmas.{three}
use Rattle.pylock_summary.proofs.facts.push_choices.Goals as goal

pub returns : goal.returns
returns c =
    let old = c.args.facts.now.items in
    let one = c.push_names.new.facts.items in
    let two = c.push_names-2.new.facts.items in
    let first = c.in_ok-push_names.ensures ∙ ap (λ (names : List (List ℕ)). old ++ texts_fact (codes "extras") names ∷ []) c.extras.ensures in
    let second = c.in_ok-push_names-2.ensures ∙ ap (λ (names : List (List ℕ)). one ++ texts_fact (codes "dependency-groups") names ∷ []) c.groups.ensures in
    let third = c.in_ok-push_names-3.ensures ∙ ap (λ (names : List (List ℕ)). two ++ texts_fact (codes "default-groups") names ∷ []) c.default_groups.ensures in
    three old one two c.push_names-3.new.facts.items _ _ _ first second third

use Rattle.std.proofs.Common.{◌∙◌, ℕ, List, [], ◌∷◌, ◌++◌, Option, ap, codes, map}
use Rattle.pymark_core.specs.Marker.Reading.{MarkerValue}
use Rattle.pylock_summary.specs.Fact.{text_fact, texts_fact}
use Rattle.pylock_summary.proofs.FactLemmas.{three}
use Rattle.pylock_summary.proofs.facts.push_aim.Goals as goal

pub returns : goal.returns
returns c =
    let one = c.push_text.new.facts.items in
    let two = c.push_text-2.new.facts.items in
    let second = c.in_ok-push_text-2.ensures ∙ ap (λ (text : Option (List ℕ)). one ++ text_fact (codes "requires-python") text ∷ []) c.requires_python.ensures in
    let third = c.in_ok-push_markers.ensures
    ∙ ap (λ (markers : List MarkerValue). two ++ texts_fact (codes "environments") (map (λ marker. marker.text) markers) ∷ []) c.environments.ensures in
    three c.args.facts.now.items one two c.push_markers.new.facts.items _ _ _ c.in_ok-push_text.ensures second third

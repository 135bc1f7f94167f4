use Rattle.std.proofs.Common.{rules, ◌≡◌, ◌∙◌, ap, string_bytes}
use Rattle.pylock_documents.specs.Environment.{environment_text, target_text}
use Rattle.pylock_documents.proofs.environment.environment_text.Goals as goal

pub returns : goal.returns
unfolding target_text
returns c =
    let here = c.in_ok-environment in
    let text : string_bytes c.push_str.new.self ≡ environment_text here.environment here.tags = search rules in
    text ∙ ap (λ p. environment_text p.0 p.1) here.ensures

use Rattle.std.proofs.Common.{◌≡◌, ◌∷◌, ◌++◌, ap, sym, ◌∙◌, rules}
use Rattle.std.proofs.lemmas.Result.{on_ok_weaker}
use Rattle.pylock_readers.specs.Text.{text_pairs}
use Rattle.pylock_run.specs.Text.Field.{field}
use Rattle.pylock_run.specs.Text.Plan.{hashes_text}
use Rattle.pylock_run.proofs.TextLemmas.{pushed_hashes}
use Rattle.pylock_run.proofs.text.plan.push_hashes.Goals as goal

pub returns : goal.returns
returns c =
    let whole : c.args.hashes.now ≡ c.in-Some.first.now ∷ c.in-Some.rest.now = search rules in
    on_ok_weaker c.push_more_hashes.result
    (λ more. pushed_hashes _ _ _ _ _ _ c.in_ok-push.ensures.items c.in_ok-push_hash.ensures more
    ∙ ap (λ h. c.args.out.now.items ++ 9 ∷ field (hashes_text (text_pairs h))) (sym whole))
    c.push_more_hashes.ensures

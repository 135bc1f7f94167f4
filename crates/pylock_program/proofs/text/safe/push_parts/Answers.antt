use Rattle.std.proofs.Common.{◌∙◌, ◌++◌, ap, append_assoc, sym}
use Rattle.std.proofs.lemmas.Result.{on_ok_weaker}
use Rattle.pylock_program.specs.Text.Safe.{safe_text}
use Rattle.pylock_program.proofs.SafeLemmas.{safe_parts}
use Rattle.pylock_program.proofs.text.safe.push_parts.Goals as goal

pub returns : goal.returns
returns c =
    let some = sym c.is_empty.ensures ∙ c.if-is_empty.false in
    let more = sym c.is_empty-2.ensures ∙ c.if-is_empty-2.false in
    let both = safe_parts c.args.front.now c.args.back.now c.utf8.front some more in
    on_ok_weaker c.push_safe-2.result
    (λ pushed. pushed ∙ ap (λ out. out ++ safe_text c.args.back.now) c.in_ok-push_safe.ensures ∙ append_assoc c.args.out.now.items (safe_text c.args.front.now) (safe_text c.args.back.now) ∙ ap (λ text. c.args.out.now.items ++ text) (sym both))
    c.push_safe-2.ensures

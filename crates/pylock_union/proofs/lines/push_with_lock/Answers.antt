use Rattle.std.proofs.Common.{◌∙◌, ◌++◌, append_assoc, codes, decimal, sym}
use Rattle.std.proofs.lemmas.Result.{on_ok_weaker}
use Rattle.pylock_run.specs.Text.Plan.{source_fields}
use Rattle.pylock_union.specs.Listed.{lent}
use Rattle.pylock_union.proofs.TextLemmas.{line_front, line_more}
use Rattle.pylock_union.proofs.lines.push_with_lock.Goals as goal

pub returns : goal.returns
returns c =
    let one = lent c.args.source.now in
    let out = c.args.out.now.items in
    let front = line_front one.number one.entry (source_fields one.source) in
    on_ok_weaker c.push_lock.result
    (λ told. told (out ++ front) (c.in_ok-push_source_line.ensures ∙ sym (append_assoc out front (codes "\n")))
    ∙ line_more out one.number one.entry (source_fields one.source) (decimal one.lock))
    c.push_lock.ensures

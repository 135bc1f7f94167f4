use Rattle.std.proofs.Common.{rules}
use Rattle.std.proofs.lemmas.Result.{on_ok_weaker}
use Rattle.pylock_union.proofs.TextLemmas.{counted}
use Rattle.pylock_union.proofs.lines.push_lines.Goals as goal

pub returns : goal.returns
returns c =
    on_ok_weaker c.push_each.result
    (λ lines. counted c.args.out.now.items c.push_count.new.out.items c.push_each.new.out.items _ c.args.tells_lock c.args.list.now (search rules)
    c.in_ok-push_count.ensures lines)
    c.push_each.ensures

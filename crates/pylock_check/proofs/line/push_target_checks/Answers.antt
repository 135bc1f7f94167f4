use Rattle.std.proofs.lemmas.Result.{on_ok_weaker}
use Rattle.pylock_check.proofs.TargetLemmas.{all_pushed}
use Rattle.pylock_check.proofs.line.push_target_checks.Goals as goal

pub returns : goal.returns
returns c =
    on_ok_weaker c.push_lines_of_targets.result
    (all_pushed c.args.out.now.items c.push_count.new.out.items c.push_head_lines.new.out.items c.push_lines_of_targets.new.out.items
    c.in_ok-count_lines.field-0 c.args.of_head.now c.args.checks.now c.in_ok-count_lines.ensures c.in_ok-push_count.ensures c.in_ok-push_head_lines.ensures)
    c.push_lines_of_targets.ensures

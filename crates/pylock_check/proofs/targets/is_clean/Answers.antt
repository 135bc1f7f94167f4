use Rattle.std.proofs.Common.{◌≡◌, ◌∙◌, ◌==◌, ◌&&◌, ap, length, rules, sym, true}
use Rattle.std.specs.List.{list_all}
use Rattle.pylock_check.specs.Targets.{check_lines}
use Rattle.pylock_check.proofs.TargetLemmas.{clean}
use Rattle.pylock_check.proofs.targets.is_clean.Goals as goal

pub returns-then-is_empty : goal.returns-then-is_empty
returns-then-is_empty c =
    let none : (length c.args.of_head.now == 0) ≡ true = search rules in
    c.are_clean.ensures
    ∙ ap (λ b. b && list_all (λ check. length (check_lines check) == 0) c.args.checks.now) (sym none)
    ∙ clean c.args.of_head.now c.args.checks.now

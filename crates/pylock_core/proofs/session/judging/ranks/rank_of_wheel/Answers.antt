use Rattle.std.proofs.Common.{rules, ◌≡◌, ◌∙◌, ℕ, Option, None, ap, sym}
use Rattle.std.specs.Option.{option_copied}
use Rattle.pylock_core.proofs.Lemmas.Judging.Ranks.{rank_here, rank_nowhere}
use Rattle.pylock_core.proofs.session.judging.ranks.rank_of_wheel.Goals as goal

pub returns-in_err-wheel : goal.returns-in_err-wheel
returns-in_err-wheel c =
    let none : ◌≡◌ {A = Option ℕ} c.from_residual.result None = search rules in
    none ∙ rank_nowhere c.args.entry.now c.args.place c.args.tags.now (sym c.wheel_at.ensures ∙ ap option_copied c.in_err-wheel.was)

pub returns : goal.returns
returns c =
    c.best_rank.ensures ∙ rank_here c.args.entry.now c.args.place c.in_ok-wheel.wheel.now c.args.tags.now (sym c.wheel_at.ensures ∙ ap option_copied c.in_ok-wheel.was)

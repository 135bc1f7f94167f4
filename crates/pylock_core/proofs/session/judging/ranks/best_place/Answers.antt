use Rattle.std.proofs.Common.{rules, ◌≡◌, ◌∙◌, ℕ, Option, None, option_map, slice_index_or, ap, sym}
use Rattle.pylock_core.specs.Inner.Tables.TagSets.{names_in}
use Rattle.pylock_core.proofs.Lemmas.Judging.Ranks.{best_place}
use Rattle.pylock_core.proofs.session.judging.ranks.best_place.Goals as goal

pub returns-in_err-best-clause-best : goal.returns-in_err-best-clause-best
returns-in_err-best-clause-best c =
    let none : ◌≡◌ {A = Option ℕ} c.from_residual.result None = search rules in
    none ∙ ap (option_map (λ b. b.place)) (sym c.in_err-best.was)
    ∙ best_place (names_in (slice_index_or c.args.parts.now.entries.items c.args.place None)) c.best_wheel.result c.args.tags.now c.best_wheel.ensures.best

pub returns-clause-best : goal.returns-clause-best
returns-clause-best c =
    ap (option_map (λ b. b.place)) (sym c.in_ok-best.was)
    ∙ best_place (names_in (slice_index_or c.args.parts.now.entries.items c.args.place None)) c.best_wheel.result c.args.tags.now c.best_wheel.ensures.best

use Rattle.std.proofs.Common.{◌≡◌, ℕ, List, [], ◌∷◌, Some, None, sym, ap, ◌∙◌}
use Rattle.std.proofs.lemmas.Result.{err_from_is_err_and}
use Rattle.std.proofs.lemmas.Bool.{or_left}
use Rattle.pyver_core.specs.Version.Grammar.{has_large}
use Rattle.pyver_core.specs.Version.Reading.{dotted_number_at, many_at}
use Rattle.pyver_core.proofs.Lemmas.Version.Grammar.Limits.{or_false, Refuses-more, items_step, items_end, dotted_large}
use Rattle.pyver_core.proofs.Lemmas.Version.Reading.Many.{dotted_shrinks, many_at-none}
use Rattle.pyver_core.proofs.version.reading.base.with_dotted_numbers.Goals as goal

pub returns-in_err-number : goal.returns-in_err-number
returns-in_err-number c =
    let p = err_from_is_err_and c.from_residual.result c.from_residual.ensures.1 in
    let read : dotted_number_at c.loop-next.rest.now ≡ Some (c.in-Some.next, c.in-Some.after.now) = sym c.in-Some.ensures in
    rw (p.1, p.2) (Refuses-more _ (c.in-Some.next ∷ []) (many_at dotted_number_at c.args.bytes.now).0 (λ large. sym c.loop-next.invariant.1 ∙ (dotted_large _ _ read ∙ or_left _ _ large)) c.in_err-number.ensures)

pub loop-next-smaller : goal.loop-next-smaller
loop-next-smaller c = dotted_shrinks c.loop-next.rest.now (c.in-Some.next, c.in-Some.after.now) (sym c.in-Some.ensures)

pub loop-next-preserved : goal.loop-next-preserved
loop-next-preserved c =
    let read : dotted_number_at c.loop-next.rest.now ≡ Some (c.in-Some.next, c.in-Some.after.now) = sym c.in-Some.ensures in (
      rw (c.in_ok-push.ensures.items, c.in_ok-number.ensures.0) (items_step dotted_number_at dotted_shrinks _ _ _ read ∙ c.loop-next.invariant.0),
      sym (or_false _ _ c.in_ok-number.ensures.1) ∙ (sym (dotted_large _ _ read) ∙ c.loop-next.invariant.1),
    )

pub returns : goal.returns
returns c =
    let none : dotted_number_at c.loop-next.rest.now ≡ None = sym c.in_default.ensures in (
      sym (items_end dotted_number_at _ _ none) ∙ c.loop-next.invariant.0,
      sym c.loop-next.invariant.1 ∙ ap (λ (r : List ℕ × List ℕ). has_large r.0) (many_at-none dotted_number_at _ none),
    )

use Rattle.std.proofs.Common.{◌≡◌, ℕ, List, Some, None, sym, ap, ◌∙◌}
use Rattle.std.specs.Prelude.{flat_map}
use Rattle.std.proofs.lemmas.Result.{err_from_is_err_and}
use Rattle.std.proofs.lemmas.Bool.{or_left}
use Rattle.pyver_core.specs.Version.Grammar.{has_large, number_in_segment}
use Rattle.pyver_core.specs.Version.Reading.{separated_segment_at, many_at}
use Rattle.pyver_core.specs.declared.version.part.LocalPart.{LocalPart}
use Rattle.pyver_core.proofs.Lemmas.Version.Grammar.Limits.{or_false, Refuses-more, items_step, items_end, separated_large}
use Rattle.pyver_core.proofs.Lemmas.Version.Reading.Many.{separated_shrinks, many_at-none}
use Rattle.pyver_core.proofs.version.reading.local.with_separated_segments.Goals as goal

pub returns-in_err-to_local_part : goal.returns-in_err-to_local_part
returns-in_err-to_local_part c =
    let p = err_from_is_err_and c.from_residual.result c.from_residual.ensures.1 in
    let read : separated_segment_at c.loop-next.rest.now ≡ Some (c.in-Some.next, c.in-Some.after.now) = sym c.in-Some.ensures in
    rw (p.1, p.2) (Refuses-more _ (number_in_segment c.in-Some.next) (flat_map number_in_segment (many_at separated_segment_at c.args.bytes.now).0) (λ large. sym c.loop-next.invariant.1 ∙ (separated_large _ _ read ∙ or_left _ _ large)) c.in_err-to_local_part.ensures)

pub loop-next-smaller : goal.loop-next-smaller
loop-next-smaller c = separated_shrinks c.loop-next.rest.now (c.in-Some.next, c.in-Some.after.now) (sym c.in-Some.ensures)

pub loop-next-preserved : goal.loop-next-preserved
loop-next-preserved c =
    let read : separated_segment_at c.loop-next.rest.now ≡ Some (c.in-Some.next, c.in-Some.after.now) = sym c.in-Some.ensures in (
      rw (c.in_ok-push.ensures.items, c.in_ok-to_local_part.ensures.0) (items_step separated_segment_at separated_shrinks _ _ _ read ∙ c.loop-next.invariant.0),
      sym (or_false _ _ c.in_ok-to_local_part.ensures.1) ∙ (sym (separated_large _ _ read) ∙ c.loop-next.invariant.1),
    )

pub returns : goal.returns
returns c =
    let none : separated_segment_at c.loop-next.rest.now ≡ None = sym c.in_default.ensures in (
      sym (items_end separated_segment_at _ _ none) ∙ c.loop-next.invariant.0,
      sym c.loop-next.invariant.1 ∙ ap (λ (r : List LocalPart × List ℕ). has_large (flat_map number_in_segment r.0)) (many_at-none separated_segment_at _ none),
    )

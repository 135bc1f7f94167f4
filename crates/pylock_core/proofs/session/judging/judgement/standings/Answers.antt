use Rattle.std.proofs.Common.{◌∙◌, ◌-◌, ◌++◌, ◌∷◌, [], map, slice_index_or, ap}
use Rattle.std.proofs.lemmas.List.{drop_more}
use Rattle.pylock_core.specs.Inner.Judging.Judgement.{fresh_standing}
use Rattle.pylock_core.proofs.Lemmas.Judging.Judgement.{one_more}
use Rattle.pylock_core.proofs.Lemmas.Judging.Standings.{none_found}
use Rattle.pylock_core.proofs.session.judging.judgement.standings.Goals as goal

-- nothing is found yet
pub loop-number-init : goal.loop-number-init
loop-number-init c =
    let p = c.args.parts.now in
    record {
      fresh = ap (λ xs. xs ++ map (fresh_standing c.args.environment.now p.entries.items) c.args.numbers.now) c.in_ok-fresh.ensures.items;
      judged = ap (λ ns. ns ++ c.args.numbers.now) c.in_ok-reserve.ensures;
      found = none_found p.entries.items p.rows.items c.args.environment.now c.in_ok-found.found.items c.in_ok-found.ensures;
    }

pub new-requires-clause-above : goal.new-requires-clause-above
new-requires-clause-above c = (c.requires.stand c.loop-number.number-index c.loop-number-test.true).0

pub new-requires-clause-stands : goal.new-requires-clause-stands
new-requires-clause-stands c = (c.requires.stand c.loop-number.number-index c.loop-number-test.true).1

pub loop-number-preserved : goal.loop-number-preserved
loop-number-preserved c =
    let i = c.loop-number.number-index in
    let place = slice_index_or c.args.numbers.now i 0 - 1 in
    let more = drop_more c.args.numbers.now i 0 c.loop-number-test.true in
    record {
      fresh = one_more _ _ _ _ _ (c.in_ok-push.ensures.items ∙ ap (λ s. c.loop-number.fresh.items ++ (place, s) ∷ []) c.in_ok-standing.ensures.standing) (ap (map _) more) c.loop-number.invariant.fresh;
      judged = one_more _ _ _ _ _ c.in_ok-standing.ensures.judged more c.loop-number.invariant.judged;
      found = c.in_ok-standing.ensures.found;
    }

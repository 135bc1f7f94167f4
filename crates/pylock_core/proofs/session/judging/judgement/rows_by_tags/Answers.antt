use Rattle.std.proofs.Common.{◌∙◌, ◌++◌, ◌∷◌, [], map, ap}
use Rattle.std.proofs.lemmas.List.{drop_more}
use Rattle.pylock_core.proofs.Lemmas.Judging.Judgement.{one_more}
use Rattle.pylock_core.proofs.session.judging.judgement.rows_by_tags.Goals as goal

pub row_by_tags-requires-clause-above : goal.row_by_tags-requires-clause-above
row_by_tags-requires-clause-above c = (c.requires.stand c.loop-number.number-index c.loop-number-test.true).0

pub row_by_tags-requires-clause-stands : goal.row_by_tags-requires-clause-stands
row_by_tags-requires-clause-stands c = (c.requires.stand c.loop-number.number-index c.loop-number-test.true).1

pub loop-number-preserved : goal.loop-number-preserved
loop-number-preserved c =
    let i = c.loop-number.number-index in
    let more = drop_more c.args.numbers.now i 0 c.loop-number-test.true in
    record {
      fresh = one_more _ _ _ _ _ (c.in_ok-push.ensures.items ∙ ap (λ row. c.loop-number.fresh.items ++ row ∷ []) c.in_ok-row.ensures.fresh) (ap (map _) more) c.loop-number.invariant.fresh;
      judged = one_more _ _ _ _ _ c.in_ok-row.ensures.judged more c.loop-number.invariant.judged;
      ranks = c.in_ok-row.ensures.ranks;
    }

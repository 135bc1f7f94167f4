use Rattle.std.proofs.Common.{◌∙◌, ◌-◌, ◌++◌, ◌∷◌, [], map, None, slice_index_or, ap, arith}
use Rattle.std.proofs.lemmas.List.{get_or_default, drop_more}
use Rattle.pylock_core.specs.Inner.Judging.Judgement.{row_anew}
use Rattle.pylock_core.specs.Inner.Parts.{IsJudged}
use Rattle.pylock_core.proofs.Lemmas.Tables.Rows.{of_rows_at, some_within}
use Rattle.pylock_core.proofs.Lemmas.Judging.Judgement.{one_more, row_within}
use Rattle.pylock_core.proofs.session.judging.judgement.rows_under_policy.Goals as goal

pub index-requires-in-loop-number : goal.index-requires-in-loop-number
index-requires-in-loop-number c =
    let stands = c.requires.stand c.loop-number.number-index c.loop-number-test.true in
    let within = row_within c.args.parts.now (slice_index_or c.args.numbers.now c.loop-number.number-index 0 - 1) c.requires.session stands.1 in
    omega (arith, within, c.args.parts.now.rows.ok.0)

pub row_under_policy-requires-clause-judged : goal.row_under_policy-requires-clause-judged
row_under_policy-requires-clause-judged c =
    let p = c.args.parts.now in
    let place = slice_index_or c.args.numbers.now c.loop-number.number-index 0 - 1 in
    let stands = c.requires.stand c.loop-number.number-index c.loop-number-test.true in
    of_rows_at (IsJudged p.environment p.tags p.names.policies.items) p.entries.items p.rows.items place _ _ c.requires.session.judged
    (c.index.ensures ∙ get_or_default p.entries.items place c.index.result.now None (some_within p.entries.items place stands.1))
    (c.index-in-loop-number.ensures ∙ get_or_default p.rows.items place c.index-in-loop-number.result.now None (row_within p place c.requires.session stands.1))

pub loop-number-preserved : goal.loop-number-preserved
loop-number-preserved c =
    let p = c.args.parts.now in
    let i = c.loop-number.number-index in
    let place = slice_index_or c.args.numbers.now i 0 - 1 in
    let stands = c.requires.stand i c.loop-number-test.true in
    let entry = c.index.ensures ∙ get_or_default p.entries.items place c.index.result.now None (some_within p.entries.items place stands.1) in
    let row = c.index-in-loop-number.ensures ∙ get_or_default p.rows.items place c.index-in-loop-number.result.now None (row_within p place c.requires.session stands.1) in
    let anew = c.in_ok-row.ensures.row ∙ (λ j. row_anew p.environment p.tags (λ name. c.args.policy) (entry j) (row j)) in
    let more = drop_more c.args.numbers.now i 0 c.loop-number-test.true in
    record {
      fresh = one_more _ _ _ _ _ (c.in_ok-push.ensures.items ∙ ap (λ r. c.loop-number.fresh.items ++ (place, r) ∷ []) anew) (ap (map _) more) c.loop-number.invariant.fresh;
      judged = one_more _ _ _ _ _ c.in_ok-row.ensures.judged more c.loop-number.invariant.judged;
    }

use Rattle.std.proofs.Common.{◌≡◌, ◌∙◌, ◌+◌, ◌<◌, ap, drop, get_or, length, sym, None, slice_index_or}
use Rattle.pylock_core.specs.Inner.Answering.Fates.{first_active_row, row_fate}
use Rattle.pylock_core.specs.Inner.Tables.Names.{policy_at}
use Rattle.pylock_core.specs.Inner.Answering.Steps.{numbered}
use Rattle.pylock_core.proofs.Lemmas.Answering.Fates.{one_more_fate}
use Rattle.pylock_core.proofs.Lemmas.Answering.Steps.{numbered_some, of_row}
use Rattle.pylock_core.proofs.session.answering.fates.fates_of.Goals as goal

pub loop-number-preserved : goal.loop-number-preserved
loop-number-preserved c =
    let rows = c.args.rows.now in
    let numbers = c.args.numbers.now in
    let policies = c.args.policies.now in
    let i = c.loop-number.number-index in
    let n = get_or numbers i 0 in
    let row = c.in-Some.row.now in
    let every = numbered rows numbers in
    let below : row.name < length policies = of_row (λ row. row.name < length policies) rows c.requires n row (sym c.in-Some.ensures) in
    let first : slice_index_or c.as_slice.result.now row.name None ≡ first_active_row every row.name =
    ap (λ firsts. slice_index_or firsts row.name None) c.as_slice.ensures.value ∙ c.in_ok-firsts.ensures.first row.name below in
    one_more_fate every (numbered rows (drop i numbers)) (numbered rows (drop (i + 1) numbers)) policies c.loop-number.fates.items c.push.new.self.items n row c.fate_of-fate.result
    (numbered_some rows numbers i row c.loop-number-test.true (sym c.in-Some.ensures))
    (c.fate_of-fate.ensures ∙ ap (λ f. row_fate (policy_at policies row.name) f (n, row)) first)
    c.in_ok-push.ensures.items c.loop-number.invariant

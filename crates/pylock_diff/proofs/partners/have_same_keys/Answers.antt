use Rattle.std.proofs.Common.{◌∙◌, ◌<◌, length, sym, ap, arith}
use Rattle.std.proofs.lemmas.List.{take_all}
use Rattle.pylock_diff.proofs.PartnerLemmas.{keys_of, same_more}
use Rattle.pylock_diff.proofs.partners.have_same_keys.Goals as goal

pub loop-place-preserved : goal.loop-place-preserved
loop-place-preserved c =
    let capacity : c.loop-place.place < length c.args.news.now = omega arith in
    same_more c.args.olds.now c.args.news.now c.loop-place.place c.index-olds-place.result c.in-Some.new.now c.loop-place-test.true c.index-olds-place.is
    capacity c.in-Some.ensures.lookup.1
    (c.are_same_codes.ensures c.if-not-are_same_codes.false) c.loop-place.invariant

pub returns : goal.returns
returns c = λ _.
    let past = take_all c.loop-place.place c.args.olds.now c.loop-place-test.false in
    let other = take_all c.loop-place.place c.args.news.now (omega arith) in
    sym (ap keys_of past) ∙ c.loop-place.invariant ∙ ap keys_of other

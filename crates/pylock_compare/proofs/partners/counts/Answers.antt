use Rattle.std.proofs.Common.{◌≡◌, ◌+◌, arith}
use Rattle.std.proofs.lemmas.Grind.{common_steps}
use Rattle.pylock_compare.specs.Counts.{count_in}
use Rattle.pylock_compare.proofs.PartnerLemmas.{count_bound, counted_more, stands_once}
use Rattle.pylock_compare.proofs.partners.counts.Goals as goal

pub loop-key-preserved : goal.loop-key-preserved
loop-key-preserved c = λ k.
    let one : c.unwrap_or-count.result + 1 ≡ count_in c.loop-key.table c.in-Some.key + 1 = grind (arith, common_steps) in
    counted_more c.loop-key.table c.insert.new.self c.in-Some.key _ _ _ _ c.in_ok-insert.ensures.updates one c.in-Some.ensures.steps.0 k (c.loop-key.invariant k)

pub overflow_add-count : goal.overflow_add-count
overflow_add-count c =
    let same : c.unwrap_or-count.result ≡ count_in c.loop-key.table c.in-Some.key = grind (arith, common_steps) in
    let there = stands_once c.in-Some.key _ _ c.in-Some.ensures.steps.0 in
    let all = c.loop-key.invariant c.in-Some.key in
    let bound = count_bound c.in-Some.key c.args.keys.items in
    omega (arith, c.args.keys.ok.0, c.args.keys.ok.1, c.args.keys.small)

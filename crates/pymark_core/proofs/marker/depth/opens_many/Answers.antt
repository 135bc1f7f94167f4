use Rattle.std.proofs.Common.{[], ap, sym, arith, nat_lt}
use Rattle.std.specs.Prelude.{count_by}
use Rattle.std.specs.List.{sum_by}
use Rattle.std.proofs.lemmas.Bool.{lt-ltb}
use Rattle.std.proofs.lemmas.List.{take_all}
use Rattle.std.proofs.lemmas.List.Sums.{sum_by_more_le}
use Rattle.pymark_core.specs.Marker.Depth.{is_opening}
use Rattle.pymark_core.proofs.Lemmas.Marker.Depth.{opened_in_chunks}
use Rattle.pymark_core.proofs.marker.depth.opens_many.Goals as goal

pub returns-then-count-gt-DEPTH_LIMIT : goal.returns-then-count-gt-DEPTH_LIMIT
returns-then-count-gt-DEPTH_LIMIT c =
    let whole = opened_in_chunks 128 _ c.args.text.now _ _ c.as_chunks.ensures.front c.as_chunks.ensures.back in
    let within = sum_by_more_le (count_by is_opening) c.as_chunks.result.0.now c.loop-chunk.chunk-index [] c.loop-chunk-test.true in
    sym (lt-ltb 64 _ (omega (arith, whole, within, c.loop-chunk.invariant.0, c.opening_count.ensures, c.if-count-gt-DEPTH_LIMIT.true)))

pub returns : goal.returns
returns c =
    let whole = opened_in_chunks 128 _ c.args.text.now _ _ c.as_chunks.ensures.front c.as_chunks.ensures.back in
    let all = ap (sum_by (count_by is_opening)) (take_all c.loop-chunk.chunk-index c.as_chunks.result.0.now c.loop-chunk-test.false) in
    ap (nat_lt 64) (omega (arith, whole, all, c.loop-chunk.invariant.0, c.opening_count-2.ensures))

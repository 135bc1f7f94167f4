use Rattle.std.proofs.Common.{◌+◌, drop, sym, ap, ◌∙◌, arith}
use Rattle.std.proofs.lemmas.List.{drop_more, drop_all}
use Rattle.pymark_core.specs.Marker.Depth.{is_deep}
use Rattle.pymark_core.specs.Inner.Nesting.{is_deep_from}
use Rattle.pymark_core.proofs.Lemmas.Marker.Depth.{deep_end, deep_here, deep_whole}
use Rattle.pymark_core.proofs.marker.depth.is_nested_deep.Goals as goal

pub loop-byte-init : goal.loop-byte-init
loop-byte-init c = (omega arith, omega arith, omega arith, deep_whole _)

pub returns-then-saturating_sub-gt-DEPTH_LIMIT : goal.returns-then-saturating_sub-gt-DEPTH_LIMIT
returns-then-saturating_sub-gt-DEPTH_LIMIT c =
    let items = c.as_bytes-byte-items.result.now in
    let i = c.loop-byte.byte-index in
    sym (deep_here c.pass_byte.new.self (drop (i + 1) items) (omega arith))
    ∙ c.pass_byte.ensures.ahead (drop (i + 1) items)
    ∙ ap (is_deep_from c.loop-byte.nesting) (sym (drop_more items i 0 c.loop-byte-test.true))
    ∙ c.loop-byte.invariant.3 ∙ ap is_deep c.as_bytes-byte-items.ensures.value

pub returns : goal.returns
returns c =
    let items = c.as_bytes-byte-items.result.now in
    let i = c.loop-byte.byte-index in
    sym (deep_end c.loop-byte.nesting c.loop-byte.invariant.2)
    ∙ ap (is_deep_from c.loop-byte.nesting) (sym (drop_all i items c.loop-byte-test.false))
    ∙ c.loop-byte.invariant.3 ∙ ap is_deep c.as_bytes-byte-items.ensures.value

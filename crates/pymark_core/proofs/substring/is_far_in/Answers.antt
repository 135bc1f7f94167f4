use Rattle.std.proofs.Common.{◌∙◌, ap, sym}
use Rattle.pymark_core.specs.Marker.Value.{is_substring}
use Rattle.pymark_core.proofs.Lemmas.Marker.Value.Substrings.{behind_passed, fewer_passed}
use Rattle.pymark_core.proofs.substring.is_far_in.Goals as goal

pub returns-then-has_capacity : goal.returns-then-has_capacity
returns-then-has_capacity c =
    let passed = fewer_passed c.args.part.now c.args.whole.now _ _ _ _ c.as_bytes.ensures.value c.as_bytes-2.ensures.value c.floor_char_boundary-from.ensures.bound c.passed_places.ensures.nowhere in
    c.is_near_in.ensures
    ∙ ap (is_substring c.args.part.now) c.range_from-rest.ensures.value
    ∙ behind_passed c.args.part.now c.args.whole.now c.floor_char_boundary-from.result passed

pub returns-else-has_capacity : goal.returns-else-has_capacity
returns-else-has_capacity c =
    let passed = fewer_passed c.args.part.now c.args.whole.now _ _ _ _ c.as_bytes.ensures.value c.as_bytes-2.ensures.value c.floor_char_boundary-from.ensures.bound c.passed_places.ensures.nowhere in
    c.if-has_capacity.false
    ∙ sym (c.has_capacity.ensures c.if-has_capacity.false)
    ∙ ap (is_substring c.args.part.now) c.range_from-rest.ensures.value
    ∙ behind_passed c.args.part.now c.args.whole.now c.floor_char_boundary-from.result passed

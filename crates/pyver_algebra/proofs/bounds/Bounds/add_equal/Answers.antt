use Rattle.std.proofs.Common.{◌≡◌, ◌∙◌, true, false}
use Rattle.std.proofs.lemmas.Result.{on_ok_weaker}
use Rattle.pyver_core.specs.Set.Admission.{has_local}
use Rattle.pyver_core.specs.Version.Parts.{public_part}
use Rattle.pyver_algebra.proofs.AddLemmas.{equal_at, local_at, no_segments, some_segments}
use Rattle.pyver_algebra.proofs.bounds.Bounds.add_equal.Goals as goal

pub returns-then-is_empty : goal.returns-then-is_empty
returns-then-is_empty c =
    let v = c.args.operand.now in
    let none : has_local v ≡ false = no_segments v c.local.result.now c.is_empty.result c.local.ensures c.is_empty.ensures c.if-is_empty.true in
    let same : c.in_ok-clone.field-0 ≡ v = c.in_ok-clone.ensures.cases in
    on_ok_weaker c.keep_at.result (λ keeps w old is. keeps w old (equal_at v w c.in_ok-clone.field-0 c.args.wanted same none is)) c.keep_at.ensures

pub returns-then-wanted : goal.returns-then-wanted
returns-then-wanted c =
    let v = c.args.operand.now in
    let some : has_local v ≡ true = some_segments v c.local.result.now c.is_empty.result c.local.ensures c.is_empty.ensures c.if-is_empty.false in
    let same : c.in_ok-public_part.field-0 ≡ public_part v = c.in_ok-public_part.ensures in
    on_ok_weaker c.keep_at-then-wanted.result (λ keeps w old is. keeps w old (local_at v w c.in_ok-public_part.field-0 same some (is ∙ c.if-wanted.true))) c.keep_at-then-wanted.ensures

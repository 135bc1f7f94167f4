use Rattle.std.proofs.Common.{◌≡◌, min, length, true, false, ◌∙◌, sym, arith}
use Rattle.pyver_core.specs.Set.Admission.{matches_prefix}
use Rattle.pyver_core.specs.Version.Parts.{Parts}
use Rattle.pyver_algebra.specs.Limits.{is_between}
use Rattle.pyver_algebra.proofs.FirstTwoLemmas.{are_zeros, prefix_with_more, prefix_with_zeros}
use Rattle.pyver_algebra.proofs.step.first_prefix_step.Goals as goal

pub returns-then-are_zeros : goal.returns-then-are_zeros
returns-then-are_zeros c =
    let release = c.args.release.now in
    let front = c.split_at.result.0.now in
    let behind = c.split_at.result.1.now in
    let short : c.min.result ≡ min 2 (length release) = omega (arith, c.min.ensures) in
    let all : are_zeros behind ≡ true = sym c.are_zeros.ensures ∙ c.if-are_zeros.true in
    let step : (v : Parts) → is_between c.in-Some.step.begin c.in-Some.step.end v ≡ matches_prefix 0 front v = rw c.in-Some.is at c.in_ok-step.ensures in
    λ v none. step v ∙ prefix_with_zeros release front behind c.min.result v short c.split_at.ensures.front c.split_at.ensures.back all none

pub returns : goal.returns
returns c =
    let release = c.args.release.now in
    let behind = c.split_at.result.1.now in
    let short : c.min.result ≡ min 2 (length release) = omega (arith, c.min.ensures) in
    let some : are_zeros behind ≡ false = sym c.are_zeros.ensures ∙ c.if-are_zeros.false in
    λ v none. c.in_ok-empty_step.ensures v ∙ prefix_with_more release behind c.min.result v short c.split_at.ensures.back some none

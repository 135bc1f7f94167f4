use Rattle.std.proofs.Common.{◌≡◌, ◌∙◌, ◌==◌, false, length, ap}
use Rattle.pyver_algebra.specs.Firsts.{first_of, with_last_raised}
use Rattle.pyver_algebra.proofs.AddLemmas.{prefix_between}
use Rattle.pyver_algebra.proofs.step.prefix_step.Goals as goal

pub returns-in-Some-Some : goal.returns-in-Some-Some
returns-in-Some-Some c = λ v.
    let e = c.args.epoch in
    let release = c.args.release.now in
    let m = c.in-Some-Some in
    let some : (length release == 0) ≡ false = rw c.in-Some.is at c.in_ok-raised.ensures.some in
    let raised : c.in-Some.raised.items ≡ with_last_raised release = rw c.in-Some.is at c.in_ok-raised.ensures.value in
    let begin : m.begin ≡ first_of e c.in_ok-release.release.items = rw m.is-0 at c.in_ok-begin.ensures in
    let end : m.end ≡ first_of e c.in-Some.raised.items = rw m.is-1 at c.in_ok-end.ensures in
    let low = c.before-in-Some-Some in
    let high = c.before-in-Some-Some-2 in
    prefix_between e release v low.result high.result
    (low.ensures.version ∙ begin ∙ ap (first_of e) c.in_ok-release.ensures.items) low.ensures.after
    (high.ensures.version ∙ end ∙ ap (first_of e) raised) high.ensures.after some

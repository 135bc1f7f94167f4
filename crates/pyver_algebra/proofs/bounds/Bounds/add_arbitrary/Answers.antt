use Rattle.std.proofs.Common.{◌∙◌, IsTrue}
use Rattle.std.proofs.lemmas.Result.{on_ok_weaker}
use Rattle.pyver_core.specs.Set.Admission.{is_spelled}
use Rattle.pyver_core.specs.Version.Parts.{Parts}
use Rattle.pyver_algebra.specs.Limits.{is_at}
use Rattle.pyver_algebra.proofs.bounds.Bounds.add_arbitrary.Goals as goal

pub returns-in-Some : goal.returns-in-Some
returns-in-Some c =
    let stands : (v : Parts) → IsTrue (is_spelled c.args.text.now v) → IsTrue (is_at c.in-Some.version v) = rw c.in-Some.is at c.in_ok-version.ensures in
    on_ok_weaker c.keep_one.result (λ keeps v old is. keeps v old (stands v (is ∙ c.if-not-wanted.false))) c.keep_one.ensures

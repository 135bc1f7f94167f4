use Rattle.std.proofs.Common.{◌∙◌, sym}
use Rattle.std.specs.Prelude.{option_copied}
use Rattle.pyver_algebra.specs.Limits.{Keeps}
use Rattle.pyver_algebra.proofs.LimitLemmas.{none_keeps}
use Rattle.pyver_algebra.proofs.bounds.Bounds.are_empty.Goals as goal

pub returns : goal.returns
returns c = λ yes v keeps.
    let first : Keeps c.deref.result.now v = cc in
    let second : Keeps c.deref-2.result.now v = cc in
    none_keeps c.deref-2.result.now (option_copied c.lowest_cut.result) v (sym c.any_ends_before.ensures ∙ yes) second
    (c.lowest_cut.ensures v first)

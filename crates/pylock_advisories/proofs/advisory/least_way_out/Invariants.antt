use Rattle.std.proofs.Common.{◌≡◌, drop, option_copied}
use Rattle.std.specs.List.{filter, fold}
use Rattle.pylock_advisories.specs.Evaluation.{is_way_out, least, lesser}
use Rattle.pylock_advisories.specs.Lent.{lent}
use Rattle.pylock_advisories.proofs.advisory.least_way_out.Given as goal

abbrev pub invariant-loop-fix : goal.invariant-loop-fix
invariant-loop-fix l =
    fold lesser (option_copied l.least)
    (filter (is_way_out l.version (lent l.elements)) (lent (drop l.fix-index l.fixes)))
    ≡ least (filter (is_way_out l.version (lent l.elements)) (lent l.fixes))

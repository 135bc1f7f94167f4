use Rattle.std.proofs.Common.{◌≡◌, drop, option_copied}
use Rattle.std.specs.List.{fold}
use Rattle.pylock_advisories.specs.Latest.{later, latest}
use Rattle.pylock_advisories.proofs.range.latest.Given as goal

abbrev pub invariant-loop-start : goal.invariant-loop-start
invariant-loop-start l =
    fold (later l.version) (option_copied l.latest) (drop l.start-index l.versions)
    ≡ latest l.version l.versions

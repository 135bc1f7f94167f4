-- What stands for values that are lent.
use Rattle.std.specs.Prelude.{List, map, Option, option_copied}
use Rattle.std.specs.Borrow.{Bor}
use Rattle.pyver_core.specs.Version.Parts.{Parts}
use Rattle.pylock_advisories.specs.Advisory.{AdvisoryValue}
use Rattle.pylock_advisories.specs.declared.advisory.Affecting.{Affecting}

-- values that are lent
abbrev pub lent : {X : Type 0} → List (Bor X) → List X
lent xs = map (λ x. x.now) xs

-- what is told of an advisory
abbrev pub told_as : Affecting → AdvisoryValue × Option Parts
told_as a = (a.advisory.now, option_copied a.fixed)

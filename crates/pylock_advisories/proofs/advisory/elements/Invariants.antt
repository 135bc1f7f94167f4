use Rattle.std.proofs.Common.{◌≡◌, ◌++◌, drop}
use Rattle.std.specs.List.{filter}
use Rattle.std.specs.Str.{bytes_eq}
use Rattle.pylock_advisories.specs.Lent.{lent}
use Rattle.pylock_advisories.proofs.advisory.elements.Given as goal

abbrev pub invariant-loop-element : goal.invariant-loop-element
invariant-loop-element l =
    lent l.elements.items ++ filter (λ e. bytes_eq l.name e.name) (drop l.element-index l.affected)
    ≡ filter (λ e. bytes_eq l.name e.name) l.affected

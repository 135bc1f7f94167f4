use Rattle.std.proofs.Common.{◌≡◌, ◌++◌, ℕ, List, take}
use Rattle.std.specs.List.{list_any}
use Rattle.std.specs.Str.{bytes_eq}
use Rattle.pylock_advisories.specs.Index.{found, has}
use Rattle.pylock_advisories.specs.Lent.{lent}
use Rattle.pylock_advisories.proofs.IndexLemmas.{one_if}
use Rattle.pylock_advisories.proofs.index.put_under_names.Given as goal

abbrev pub invariant-loop-element : goal.invariant-loop-element
invariant-loop-element l =
    (name : List ℕ)
    → (has l.seen name ≡ list_any (λ e. bytes_eq name e.name) (take l.element-index l.element-items))
    × (lent (found l.table name)
    ≡ lent (found l.initial.table name)
    ++ one_if (list_any (λ e. bytes_eq name e.name) (take l.element-index l.element-items)) l.advisory)

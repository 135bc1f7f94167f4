-- The advisories that name a package.
use Rattle.std.specs.Prelude.{◌≡◌, ℕ, Bool, List, [], filter, map}
use Rattle.std.specs.BTreeMap.{BTreeMap, get_by}
use Rattle.std.specs.BTreeSet.{BTreeSet, contains_by}
use Rattle.std.specs.Borrow.{Bor}
use Rattle.std.specs.Cmp.Lexicographic.{slice_cmp}
use Rattle.std.specs.Global.{Global}
use Rattle.std.specs.List.{list_any}
use Rattle.std.specs.Option.{option_map_or}
use Rattle.std.specs.Ordering.{nat_cmp}
use Rattle.std.specs.Str.{bytes_eq}
use Rattle.std.specs.declared.vec.Vec.{Vec}
use Rattle.pylock_advisories.specs.Advisory.{AdvisoryValue}

-- an element of the advisory is of the package
abbrev pub names_package : List ℕ → AdvisoryValue → Bool
names_package name a = list_any (λ e. bytes_eq name e.name) a.affected

-- what a table has under a name
abbrev pub found : {V : Type 0} → BTreeMap (Bor (List ℕ)) (Vec V Global) → List ℕ → List V
found table name =
    option_map_or (λ values. values.items) (get_by (λ key. slice_cmp nat_cmp name key.now) table) []

-- whether a set has a name
abbrev pub has : BTreeSet (Bor (List ℕ)) → List ℕ → Bool
has set name = contains_by (λ key. slice_cmp nat_cmp name key.now) set

-- the table has under each name the advisories that name it, in order
abbrev pub IsIndex : BTreeMap (Bor (List ℕ)) (Vec (Bor AdvisoryValue) Global)
    → List AdvisoryValue → Type 0
IsIndex table advisories = (name : List ℕ)
    → map (λ a. a.now) (found table name) ≡ filter (names_package name) advisories

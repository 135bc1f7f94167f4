-- Partners: of two lists of keys, those that are alike in both, one to one.
use Rattle.std.specs.Prelude.{Bool, true, false, List, [], ◌∷◌, if◌then◌else◌}
use Rattle.std.specs.List.{list_any}
use Rattle.pylock_compare.specs.Texts.{Texts, are_alike}

-- the keys without the first that is like this one
abbrev pub without_one : Texts → List Texts → List Texts
without_one key [] = []
without_one key (other ∷ others) =
    if are_alike key other then others else other ∷ without_one key others

-- of each key whether it has no partner among the others, each of which is the partner of one
abbrev pub are_alone : (keys others : List Texts) → List Bool
are_alone [] others = []
are_alone (key ∷ keys) others =
    if list_any (are_alike key) others then false ∷ are_alone keys (without_one key others)
    else true ∷ are_alone keys others

-- the values at whose places it is true
abbrev pub where_true : {V : Type 0} → List Bool → List V → List V
where_true [] values = []
where_true (is ∷ more) [] = []
where_true (is ∷ more) (value ∷ values) =
    if is then value ∷ where_true more values else where_true more values

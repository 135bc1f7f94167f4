-- A set of file names.
use Rattle.std.specs.Prelude.{◌≡◌, ℕ, List}
use Rattle.std.specs.BTreeSet.{BTreeSet, contains_text}
use Rattle.std.specs.Global.{Global}
use Rattle.std.specs.List.{list_any}
use Rattle.std.specs.Str.{bytes_eq}
use Rattle.std.specs.declared.string.String.{String}

-- the set has these names, in whatever order and number
abbrev pub Holds : BTreeSet (String Global) → List (List ℕ) → Type 0
Holds set names = (name : List ℕ) → contains_text set name ≡ list_any (bytes_eq name) names

-- The value of a marker, one part after the other.
use Rattle.std.proofs.Common.{ℕ, Bool, ◌||◌, ◌&&◌, List, Option, Result, Ok}
use Rattle.pymark_core.specs.Environment.{EnvironmentValue}
use Rattle.pymark_core.specs.Marker.Tree.{Atom, Conjunction, conjunction_of, tree_of}
use Rattle.pymark_core.specs.Marker.Value.{both_values, conjunction_value, value_with}
use Rattle.pymark_core.specs.declared.fault.EvalFault.{EvalFault}

-- what is known so far, with the conjunctions that are left
abbrev pub or_onto : Option (List ℕ) → EnvironmentValue → Bool → List Conjunction → Conjunction → Result Bool EvalFault
or_onto extra environment value left end = both_values (λ x y. x || y) (Ok value) (value_with extra environment (tree_of left end))

-- what is known so far, with the atoms that are left
abbrev pub and_onto : Option (List ℕ) → EnvironmentValue → Bool → List Atom → Atom → Result Bool EvalFault
and_onto extra environment value left end = both_values (λ x y. x && y) (Ok value) (conjunction_value extra environment (conjunction_of left end))

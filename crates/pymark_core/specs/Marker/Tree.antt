-- The trees of markers (PEP 508, "Environment Markers"): conjunctions joined by `or`, each of atoms
-- joined by `and`. Neither list is ever empty, by type.
use Rattle.std.specs.Prelude.{List, [], ◌∷◌}
use Rattle.pymark_core.specs.Marker.Comparison.{ComparisonValue}

mutual
  pub data Tree : Type 0 where
    last : Conjunction → Tree
    or : Conjunction → Tree → Tree

  pub data Conjunction : Type 0 where
    only : Atom → Conjunction
    and : Atom → Conjunction → Conjunction

  -- a comparison, or a marker in parentheses
  pub data Atom : Type 0 where
    leaf : ComparisonValue → Atom
    group : Tree → Atom

-- atoms joined by `and`
abbrev pub conjunction_of : List Atom → Atom → Conjunction
conjunction_of [] end = only end
conjunction_of (atom ∷ atoms) end = and atom (conjunction_of atoms end)

-- conjunctions joined by `or`
abbrev pub tree_of : List Conjunction → Conjunction → Tree
tree_of [] end = last end
tree_of (conjunction ∷ conjunctions) end = or conjunction (tree_of conjunctions end)

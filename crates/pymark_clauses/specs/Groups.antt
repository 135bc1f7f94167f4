-- A marker's value from its pieces, one after the other (PEP 508, "Grammar"), beside what the
-- clauses of the groups tell that are open. A group is a marker in parentheses, or the whole.
use Rattle.std.specs.Prelude.{◌≡◌, Bool, true, false, ◌&&◌, ◌||◌, List, [], ◌∷◌, ◌++◌, None}
use Rattle.std.specs.Prelude.{Result, Ok}
use Rattle.pytext.specs.Results.{◌>>=◌}
use Rattle.pymark_core.specs.Environment.{EnvironmentValue}
use Rattle.pymark_core.specs.Marker.Pieces.{PieceValue, comparison, both, either, opening, closing}
use Rattle.pymark_core.specs.Marker.Value.{comparison_value}
use Rattle.pymark_core.specs.declared.fault.EvalFault.{EvalFault}
use Rattle.pymark_clauses.specs.Clauses.{Tells}
use Rattle.pymark_clauses.specs.declared.groups.Group.{Group}
use Rattle.pymark_clauses.specs.declared.groups.Groups.{Groups}

-- a group as far as it is read
pub record GroupValue : Type 0 where
  -- whether a conjunction before its last `or` is true
  pub earlier : Bool
  -- whether all that stands behind that is true
  pub latest : Bool

-- nothing is read
abbrev pub empty : GroupValue
empty = record { earlier = false; latest = true }

-- a comparison or a group more
abbrev pub with_member : Bool → GroupValue → GroupValue
with_member value group = record { earlier = group.earlier; latest = group.latest && value }

-- the value of the group, if it ends here
abbrev pub group_value : GroupValue → Bool
group_value group = group.earlier || group.latest

-- an `or` more
abbrev pub behind_or : GroupValue → GroupValue
behind_or group = record { earlier = group_value group; latest = true }

-- The value of the marker, by the pieces that are left and what is known of the open groups: of the
-- innermost, and of those round it, from the inside.
abbrev pub value_from : EnvironmentValue → GroupValue → List GroupValue → List PieceValue
    → Result Bool EvalFault
value_from e inner outer [] = Ok (group_value inner)
value_from e inner outer (comparison c ∷ rest) =
    comparison_value None e c >>= λ value. value_from e (with_member value inner) outer rest
value_from e inner outer (both ∷ rest) = value_from e inner outer rest
value_from e inner outer (either ∷ rest) = value_from e (behind_or inner) outer rest
value_from e inner outer (opening ∷ rest) = value_from e empty (inner ∷ outer) rest
value_from e inner [] (closing ∷ rest) = value_from e inner [] rest
value_from e inner (group ∷ outer) (closing ∷ rest) =
    value_from e (with_member (group_value inner) group) outer rest

-- the clauses of a group tell both of its values
pub record TellsGroup (e : EnvironmentValue) (wanted : Bool) (value : GroupValue) (group : Group)
    : Type 0 where
  pub earlier : Tells e wanted value.earlier group.earlier.items
  pub latest : Tells e wanted value.latest group.latest.items

-- those of groups round one another do, where the list has the innermost last
abbrev pub TellsGroups : EnvironmentValue → Bool → List GroupValue → List Group → Type 0
TellsGroups e wanted [] groups = groups ≡ []
TellsGroups e wanted (value ∷ values) groups =
    (before : List Group) × (group : Group) × (groups ≡ before ++ group ∷ [])
    × TellsGroup e wanted value group × TellsGroups e wanted values before

-- the marker has this value by the pieces that are left and values that the clauses tell
pub record Reaches (e : EnvironmentValue) (wanted : Bool) (groups : Groups)
    (rest : List PieceValue) (value : Bool) : Type 0 where
  pub inner : GroupValue
  pub outer : List GroupValue
  pub tells_inner : TellsGroup e wanted inner groups.inner
  pub tells_outer : TellsGroups e wanted outer groups.outer.items
  pub reaches : value_from e inner outer rest ≡ Ok value

-- what is reached before a piece is reached behind it
abbrev pub Follows : Bool → Groups → PieceValue → Groups → Type 0
Follows wanted old piece new =
    (e : EnvironmentValue) (rest : List PieceValue) (value : Bool)
    → Reaches e wanted old (piece ∷ rest) value → Reaches e wanted new rest value

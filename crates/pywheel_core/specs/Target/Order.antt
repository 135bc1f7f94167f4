-- In which order a target takes its tags: what is made for its own Python and ABI comes first,
-- since it was built for that very release (PEP 425, "Use").
use Rattle.std.specs.Prelude.{◌≡◌, ◌⊎◌, List, [], ◌∷◌}
use Rattle.pywheel_core.specs.Tag.{TagValue}
use Rattle.pywheel_core.specs.Target.Compatible.{IsOneOf}
use Rattle.pywheel_core.specs.Target.Tags.{cpython_name, own_abi}
use Rattle.pywheel_core.specs.declared.target.cpython.CPython.{CPython}

-- it stands in the list, and the other somewhere behind it
abbrev pub StandsBefore : {X : Type 0} → X → X → List X → Type 0
StandsBefore x y [] = ⊥
StandsBefore x y (z ∷ zs) = ((x ≡ z) × IsOneOf y zs) ⊎ StandsBefore x y zs

-- made for this release of CPython, with its own ABI
abbrev pub IsOwn : CPython → TagValue → Type 0
IsOwn python tag = (tag.python ≡ cpython_name python.minor) × (tag.abi ≡ own_abi python)

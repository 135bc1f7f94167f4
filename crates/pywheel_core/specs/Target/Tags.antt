-- The tags that a target takes, best first: for each Python and ABI, one for each platform.
use Rattle.std.specs.Prelude.{ℕ, Bool, if◌then◌else◌, List, [], ◌∷◌, ◌++◌, map, codes, decimal}
use Rattle.pywheel_core.specs.Tag.{TagValue, triples}
use Rattle.pywheel_core.specs.Target.Platforms.{down, platforms_of}
use Rattle.pywheel_core.specs.Target.Value.{TargetValue}
use Rattle.pywheel_core.specs.declared.target.cpython.CPython.{CPython}

-- CPython 3.`minor`, and any Python 3.`minor` (PEP 425, "Python Tag")
abbrev pub cpython_name : ℕ → List ℕ
cpython_name minor = codes "cp3" ++ decimal minor

abbrev pub python_name : ℕ → List ℕ
python_name minor = codes "py3" ++ decimal minor

-- the ABI of this release alone (PEP 425, PEP 703)
abbrev pub own_abi : CPython → List ℕ
own_abi python =
    if python.is_free_threaded then cpython_name python.minor ++ codes "t"
    else cpython_name python.minor

-- the stable ABI (PEP 384), that of free-threaded builds (PEP 803)
abbrev pub stable_abi : CPython → List ℕ
stable_abi python = if python.is_free_threaded then codes "abi3t" else codes "abi3"

abbrev pub no_abi : List ℕ
no_abi = codes "none"

abbrev pub any_platform : List ℕ
any_platform = codes "any"

-- the CPythons of before, from 3.2 on, whose stable ABI is taken
abbrev pub older_cpythons : ℕ → List (List ℕ)
older_cpythons minor = map cpython_name (down 2 minor)

-- this Python, any Python 3, and those of before
abbrev pub pythons_3 : ℕ → List (List ℕ)
pythons_3 minor = python_name minor ∷ codes "py3" ∷ map python_name (down 0 minor)

-- those of wheels that are made for the platform, then those of wheels for any
unfoldable pub target_tags : TargetValue → List TagValue
target_tags target =
    let python = target.python in
    let platforms = platforms_of target.platform in
    let cpython = cpython_name python.minor in
    triples (cpython ∷ []) (own_abi python ∷ stable_abi python ∷ no_abi ∷ []) platforms
    ++ (triples (older_cpythons python.minor) (stable_abi python ∷ []) platforms
    ++ (triples (pythons_3 python.minor) (no_abi ∷ []) platforms
    ++ triples (cpython ∷ pythons_3 python.minor) (no_abi ∷ []) (any_platform ∷ [])))

-- The targets of a matrix for which none is asked: Pythons that the head of the lock takes, and
-- platforms that most wheels are made for.
use Rattle.std.specs.Prelude.{ℕ, Bool, List, [], ◌∷◌, ◌++◌, map, find, codes, decimal}
use Rattle.std.specs.Prelude.{Option, Some, None, is_none}
use Rattle.std.specs.List.{flat_map, range_with_len}
use Rattle.std.specs.Option.{option_map_or}
use Rattle.pyver_core.specs.Parsed.{parsed_version}
use Rattle.pyver_core.specs.declared.set.specifier.Specifier.{Specifier}
use Rattle.pylock_core.specs.Session.Steps.{version_check}

-- CPython 3.`minor`.`micro`
abbrev pub release : ℕ → ℕ → List ℕ
release minor micro =
    codes "3." ++ (decimal minor ++ (codes "." ++ decimal micro))

-- whether the set admits a release: its Python check has no fault there
abbrev pub is_met : List Specifier → ℕ → ℕ → Bool
is_met set minor micro = is_none (version_check set (parsed_version (release minor micro)))

-- the least number from 0 to 99 with which the set admits a release of CPython 3.`minor`
unfoldable pub least_micro : List Specifier → ℕ → Option ℕ
least_micro set minor = find (is_met set minor) (range_with_len 0 100)

-- that release, where there is one
abbrev pub least_release : List Specifier → ℕ → List (List ℕ)
least_release set minor =
    option_map_or (λ micro. release minor micro ∷ []) (least_micro set minor) []

-- CPython 3.`minor`, whatever its third number
abbrev pub short_release : ℕ → List ℕ
short_release minor = codes "3." ++ decimal minor

-- the second numbers of the releases
abbrev pub minors : List ℕ
minors = 10 ∷ 11 ∷ 12 ∷ 13 ∷ 14 ∷ []

-- of 3.10 to 3.14 the least release that the set admits; each as `3.10` where there is no set
abbrev pub default_pythons : Option (List Specifier) → List (List ℕ)
default_pythons None = map short_release minors
default_pythons (Some set) = flat_map (least_release set) minors

abbrev pub default_platforms : List (List ℕ)
default_platforms =
    codes "manylinux_2_28_x86_64" ∷ codes "manylinux_2_28_aarch64" ∷ codes "musllinux_1_2_x86_64"
    ∷ codes "musllinux_1_2_aarch64" ∷ codes "macosx_14_0_x86_64" ∷ codes "macosx_14_0_arm64"
    ∷ codes "win_amd64" ∷ []

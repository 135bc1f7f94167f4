-- What the name of a source distribution is to a contract.
use Rattle.std.specs.Prelude.{ℕ, ◌==◌, if◌then◌else◌, List, ◌∷◌, ◌++◌, codes, map}
use Rattle.pyver_core.specs.Version.Normal.{normal_text}
use Rattle.pyver_core.specs.Version.Parts.{Parts}

-- the name in its normal form, and the version
pub record SdistValue : Type 0 where
  pub name : List ℕ
  pub version : Parts

-- `_` for `-`, as the names of wheels have it
abbrev pub underscored : List ℕ → List ℕ
underscored name = map (λ b. if b == 45 then 95 else b) name

-- the file name that PEP 625 asks for: `{name}-{version}.tar.gz`, of the name in normal form with
-- `_` for `-` and of the version in normal form
abbrev pub sdist_text : SdistValue → List ℕ
sdist_text s = underscored s.name ++ (45 ∷ (normal_text s.version ++ codes ".tar.gz"))

-- What the name of a wheel is to a contract.
use Rattle.std.specs.Prelude.{ℕ, List, ◌∷◌, ◌++◌, codes, Option, Some, None}
use Rattle.pyver_core.specs.Version.Normal.{normal_text}
use Rattle.pyver_core.specs.Version.Parts.{Parts}
use Rattle.pywheel_core.specs.Tag.{TagValue}

-- the name as written, the version, the build tag as written, the compressed tag set in lower case,
-- and the tags that this stands for
pub record WheelValue : Type 0 where
  pub name : List ℕ
  pub version : Parts
  pub build : Option (List ℕ)
  pub tag_set : List ℕ
  pub tags : List TagValue

abbrev pub with_build : Option (List ℕ) → List ℕ → List ℕ
with_build None rest = rest
with_build (Some build) rest = build ++ (45 ∷ rest)

-- the file name: the version in its normal form, the tags in lower case
unfoldable pub wheel_text : WheelValue → List ℕ
wheel_text w = w.name
    ++ (45 ∷ (normal_text w.version ++ (45 ∷ with_build w.build (w.tag_set ++ codes ".whl"))))

-- What a version is to a contract: its parts (PEP 440, "Public version identifiers" and "Local
-- version identifiers"). Numbers are whole numbers of any size.
use Rattle.std.specs.Prelude.{ℕ, List, [], Option, None, Bool, ◌||◌, is_some}
use Rattle.pyver_core.specs.declared.version.part.PreKind.{PreKind}
use Rattle.pyver_core.specs.declared.version.part.LocalPart.{LocalPart}

-- the epoch, the numbers of the release, the letter and number of a pre-release, the numbers of a
-- post- and of a developmental release, and the segments of the local part, of which there are none
-- where the version has no local part
pub record Parts : Type 0 where
  pub epoch : ℕ
  pub release : List ℕ
  pub pre : Option (PreKind × ℕ)
  pub post : Option ℕ
  pub dev : Option ℕ
  pub local : List LocalPart

-- the version without its local part (PEP 440, "Local version identifiers")
abbrev pub public_part : Parts → Parts
public_part v = record v { local = [] }

-- the epoch and the release alone
abbrev pub base_release : Parts → Parts
base_release v = record {
  epoch = v.epoch;
  release = v.release;
  pre = None;
  post = None;
  dev = None;
  local = [];
}

-- the version of a release alone (PEP 440, "Final releases")
abbrev pub release_alone : List ℕ → Parts
release_alone release = record {
  epoch = 0;
  release = release;
  pre = None;
  post = None;
  dev = None;
  local = [];
}

-- a developmental release counts as a pre-release (PEP 440, "Handling of pre-releases")
abbrev pub is_prerelease : Parts → Bool
is_prerelease v = is_some v.pre || is_some v.dev

abbrev pub is_postrelease : Parts → Bool
is_postrelease v = is_some v.post

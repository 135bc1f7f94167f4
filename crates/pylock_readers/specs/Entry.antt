-- What a lock says of a package and its sources (PEP 751, `packages`). A text is the list of the
-- bytes of its UTF-8.
use Rattle.std.specs.Prelude.{ℕ, Bool, List, [], map, Option, unwrap_or, option_and_then}
use Rattle.std.specs.Result.{result_ok}
use Rattle.pyver_core.specs.declared.set.specifier.Specifier.{Specifier}
use Rattle.pymark_core.specs.Marker.Reading.{MarkerValue}
use Rattle.pywheel_core.specs.Wheel.Value.{WheelValue}
use Rattle.pywheel_core.specs.Wheel.Reading.{wheel_of}
use Rattle.pylock_readers.specs.Entry.FileName.{file_name_of}
pub mod FileName
pub mod Kinds
pub mod Fields
pub mod Sources
pub mod Reading

-- where a source lies: its URL, its path, or both
pub record LocationValue : Type 0 where
  pub url : Option (List ℕ)
  pub path : Option (List ℕ)

-- a checkout of a version control system (PEP 751, `packages.vcs`); the kind is its key `type`
pub record VcsValue : Type 0 where
  pub kind : List ℕ
  pub commit_id : List ℕ
  pub location : LocationValue
  pub subdirectory : Option (List ℕ)

-- a local directory (PEP 751, `packages.directory`)
pub record DirectoryValue : Type 0 where
  pub path : List ℕ
  pub editable : Bool
  pub subdirectory : Option (List ℕ)

-- an archive (PEP 751, `packages.archive`); the hashes are pairs of algorithm and value
pub record ArchiveValue : Type 0 where
  pub location : LocationValue
  pub hashes : List (List ℕ × List ℕ)
  pub subdirectory : Option (List ℕ)

-- an sdist or a wheel (PEP 751, `packages.sdist` and `packages.wheels`); the name is the key `name`
pub record FileValue : Type 0 where
  pub name : Option (List ℕ)
  pub location : LocationValue
  pub hashes : List (List ℕ × List ℕ)

-- a package of the lock (PEP 751, `packages`); the name is in normal form
pub record EntryValue : Type 0 where
  pub name : List ℕ
  pub version : Option (List ℕ)
  pub vcs : Option VcsValue
  pub directory : Option DirectoryValue
  pub archive : Option ArchiveValue
  pub sdist : Option FileValue
  pub wheels : List FileValue
  pub marker : Option MarkerValue
  pub requires_python : Option (List Specifier)

-- the place of a source: its path, else its URL
abbrev pub place_of : LocationValue → List ℕ
place_of location = unwrap_or location.path (unwrap_or location.url [])

-- the file name of an sdist or a wheel
abbrev pub file_name : FileValue → Option (List ℕ)
file_name file = file_name_of file.name file.location.path file.location.url

-- what the file name of a wheel says; nothing where it is absent or refused
abbrev pub wheel_name : FileValue → Option WheelValue
wheel_name file = option_and_then (λ name. result_ok (wheel_of name)) (file_name file)

-- the same of each wheel of an entry, in their order
abbrev pub wheel_names : EntryValue → List (Option WheelValue)
wheel_names entry = map wheel_name entry.wheels

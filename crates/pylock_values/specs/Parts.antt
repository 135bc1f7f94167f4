-- The parts of a version as numbers, and the lengths of what its normal form begins with (PEP 440,
-- "Version scheme").
use Rattle.std.specs.Prelude.{ℕ, ◌%◌, ◌/◌, ◌^◌, List, [], ◌∷◌, length, Option, Some, None}
use Rattle.std.specs.Prelude.{Bool, if◌then◌else◌, is_some, unwrap_or}
use Rattle.pyver_core.specs.Version.Hashing.{without_trailing_zeros}
use Rattle.pyver_core.specs.Version.Normal.{normal_text}
use Rattle.pyver_core.specs.Version.Parts.{Parts, base_release, public_part}
use Rattle.pyver_core.specs.declared.version.part.PreKind.{PreKind}
use Rattle.pyver_core.specs.declared.version.part.PreKind.TheVariants.{A, B, Rc}
use Rattle.pylock_values.specs.declared.versions.VersionNumbers.{VersionNumbers}

-- ---- without zeros

-- a release without the zeros at its end; its first number stays
abbrev pub short_release : List ℕ → List ℕ
short_release [] = []
short_release (first ∷ rest) = first ∷ without_trailing_zeros rest

-- the version with that release
abbrev pub without_zeros : Parts → Parts
without_zeros v = record v { release = short_release v.release }

-- that version where the form is to be short, else the version itself
abbrev pub form_of : Bool → Parts → Parts
form_of short v = if short then without_zeros v else v

-- the version of an epoch and a release alone
abbrev pub base_with : ℕ → List ℕ → Parts
base_with epoch release = record {
  epoch = epoch;
  release = release;
  pre = None;
  post = None;
  dev = None;
  local = [];
}

-- ---- numbers

-- the lower and the upper 64 bits of a number below 2^128
abbrev pub low_word : ℕ → ℕ
low_word n = n % 2 ^ 64

abbrev pub high_word : ℕ → ℕ
high_word n = n / 2 ^ 64

abbrev pub words : ℕ → List ℕ
words n = low_word n ∷ high_word n ∷ []

-- the first letter of a pre-release, and its number
abbrev pub letter : PreKind → ℕ
letter A = 97
letter B = 98
letter Rc = 114

abbrev pub pre_letter : Option (PreKind × ℕ) → ℕ
pre_letter None = 0
pre_letter (Some pre) = letter pre.0

abbrev pub pre_number : Option (PreKind × ℕ) → ℕ
pre_number None = 0
pre_number (Some pre) = pre.1

-- how long the epoch and the release are in the normal form, and how long all but the local part
abbrev pub base_length : Parts → ℕ
base_length v = length (normal_text (base_release v))

abbrev pub public_length : Parts → ℕ
public_length v = length (normal_text (public_part v))

-- the numbers of a version but for those of its release; 0 where there is none
abbrev pub numbers_of : Parts → VersionNumbers
numbers_of v = record {
  base = base_length v;
  public_end = public_length v;
  epoch_low = low_word v.epoch;
  epoch_high = high_word v.epoch;
  pre_low = low_word (pre_number v.pre);
  pre_high = high_word (pre_number v.pre);
  post_low = low_word (unwrap_or v.post 0);
  post_high = high_word (unwrap_or v.post 0);
  dev_low = low_word (unwrap_or v.dev 0);
  dev_high = high_word (unwrap_or v.dev 0);
  pre = pre_letter v.pre;
  has_post = is_some v.post;
  has_dev = is_some v.dev;
}

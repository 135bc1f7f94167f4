-- The order key and the kind of a version, its normal form, the numbers of its parts, and the
-- record of these (PEP 440).
use Rattle.std.specs.Prelude.{ℕ, Bool, List, [], ◌∷◌, codes, Option, Some, option_map, Result, Ok}
use Rattle.std.specs.List.{flat_map}
use Rattle.pytext.specs.Results.{◌>>=◌}
use Rattle.pyver_core.specs.Parsed.{parsed_version}
use Rattle.pyver_core.specs.Version.Normal.{decimal_text, normal_text, pre_text, release_text}
use Rattle.pyver_core.specs.Version.Normal.{segment_text}
use Rattle.pyver_core.specs.Version.OrderKey.{order_key}
use Rattle.pyver_core.specs.Version.Parts.{Parts, base_release, public_part}
use Rattle.pylock_values.specs.Record.{joined, record_of}
use Rattle.pylock_values.specs.Kind.{kind_of}
use Rattle.pylock_values.specs.Parts.{form_of, numbers_of, words}
use Rattle.pylock_values.specs.declared.versions.VersionKind.{VersionKind}
use Rattle.pylock_values.specs.declared.versions.VersionNumbers.{VersionNumbers}
use Rattle.pylock_slots.specs.Refusal.{refuse_as, version_refusal}
use Rattle.pylock_c.specs.Sets.{version_of}
use Rattle.pylock_slots.specs.Text.{text_of}
use Rattle.pylock_slots.specs.declared.refusal.Refusal.{Refusal}

-- bytes whose order is that of versions (the law `keys_stand_in_order` of `pyver_core`)
abbrev pub key_of : List ℕ → Result (List ℕ) Refusal
key_of bytes = do
  version ← version_of bytes
  Ok (order_key version)

-- the same, with the kind of the version
abbrev pub read_of : List ℕ → Result (List ℕ × VersionKind) Refusal
read_of bytes = do
  version ← version_of bytes
  text ← text_of bytes
  Ok (order_key version, kind_of text version)

-- the normal form; where it is to be short, without the zeros at the end of the release
abbrev pub normal_of : Bool → List ℕ → Result (List ℕ) Refusal
normal_of short bytes = do
  version ← version_of bytes
  Ok (normal_text (form_of short version))

-- two words for each number of the release, and the numbers of the other parts
abbrev pub split_text : List ℕ → Result (List ℕ × VersionNumbers) Refusal
split_text text = do
  version ← refuse_as version_refusal (parsed_version text)
  Ok (flat_map words version.release, numbers_of version)

abbrev pub split_of : List ℕ → Result (List ℕ × VersionNumbers) Refusal
split_of bytes = do
  text ← text_of bytes
  split_text text

-- what both tell: the order key, the words of the release, and the kind with the numbers of the
-- other parts
abbrev pub told_of : List ℕ → Parts → List ℕ × List ℕ × (VersionKind × VersionNumbers)
told_of text version =
    (order_key version, flat_map words version.release, (kind_of text version, numbers_of version))

abbrev pub whole_of : List ℕ
    → Result (List ℕ × List ℕ × (VersionKind × VersionNumbers)) Refusal
whole_of bytes = do
  version ← version_of bytes
  text ← text_of bytes
  Ok (told_of text version)

-- the normal form, the public part, the base release, the epoch, the release, the pre-release, the
-- numbers of the post- and the developmental release, the local part
abbrev pub parts_of : Parts → List (Option (List ℕ))
parts_of v =
    Some (normal_text v) ∷ Some (normal_text (public_part v)) ∷ Some (normal_text (base_release v))
    ∷ Some (decimal_text v.epoch) ∷ Some (release_text v.release)
    ∷ option_map (λ pre. pre_text (Some pre)) v.pre ∷ option_map decimal_text v.post
    ∷ option_map decimal_text v.dev ∷ joined segment_text (codes ".") v.local ∷ []

abbrev pub version_record : List ℕ → Result (List ℕ) Refusal
version_record bytes = do
  version ← version_of bytes
  Ok (record_of (parts_of version))

-- Reading the name of a wheel: the first refusal in order, or what the name says. It gives an
-- answer only where `Wheel` holds, and that of which it holds (the law `wheel_of_is_the_answer`),
-- and wherever `Wheel` holds (the law `wheel_of_is_complete`).
use Rattle.std.specs.Prelude.{ℕ, if◌then◌else◌, List, Option, Some, None, ok_or, Result, Ok, Err}
use Rattle.std.specs.Str.{str_to_ascii_lowercase}
use Rattle.pyver_core.specs.Version.Parts.{Parts}
use Rattle.pytext.specs.Results.{◌>>=◌}
use Rattle.pyver_core.specs.declared.version.error.VersionError.{VersionError}
use Rattle.pyver_core.specs.Parsed.{parsed_version}
use Rattle.pywheel_core.specs.Tag.{TagValue, is_tag_set, tags_in}
use Rattle.pywheel_core.specs.Texts.{three_parts}
use Rattle.pywheel_core.specs.Wheel.Build.{is_build}
use Rattle.pywheel_core.specs.Wheel.Cut.{WheelParts, parts_of, stem_of}
use Rattle.pywheel_core.specs.Wheel.Name.{is_wheel_name}
use Rattle.pywheel_core.specs.Wheel.Value.{WheelValue}
use Rattle.pywheel_core.specs.declared.error.WheelError.{WheelError}
use Rattle.pywheel_core.specs.declared.error.WheelError.TheVariants as wheel

-- each part, or its refusal

unfoldable pub name_in : List ℕ → Result (List ℕ) WheelError
name_in name = if is_wheel_name name then Ok name else Err wheel.Name

abbrev pub version_or : Result Parts VersionError → Result Parts WheelError
version_or (Ok v) = Ok v
version_or (Err e) = Err wheel.Version

unfoldable pub version_in : List ℕ → Result Parts WheelError
version_in text = version_or (parsed_version text)

abbrev pub build_in : Option (List ℕ) → Result (Option (List ℕ)) WheelError
build_in None = Ok None
build_in (Some build) = if is_build build then Ok (Some build) else Err wheel.Build

-- the tags of a compressed tag set in lower case
unfoldable pub set_tags_in : List ℕ → Result (List TagValue) WheelError
set_tags_in set = do
  parts ← ok_or (three_parts 45 set) wheel.Tags
  if is_tag_set parts then Ok (tags_in parts) else Err wheel.Tags

-- the compressed tag set in lower case, and its tags
unfoldable pub tag_set_in : List ℕ → Result (List ℕ × List TagValue) WheelError
tag_set_in text = do
  tags ← set_tags_in (str_to_ascii_lowercase text)
  Ok (str_to_ascii_lowercase text, tags)

-- the parts in order
unfoldable pub wheel_in : WheelParts → Result WheelValue WheelError
wheel_in parts = do
  name ← name_in parts.name
  version ← version_in parts.version
  build ← build_in parts.build
  set ← tag_set_in parts.tag_set
  Ok (record { name = name; version = version; build = build; tag_set = set.0; tags = set.1 })

-- What the text says as the name of a wheel, or the first reason why it is none.
unfoldable pub wheel_of : List ℕ → Result WheelValue WheelError
wheel_of text = do
  stem ← ok_or (stem_of text) wheel.Extension
  parts ← ok_or (parts_of stem) wheel.Parts
  wheel_in parts

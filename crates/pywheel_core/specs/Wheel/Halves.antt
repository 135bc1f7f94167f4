-- The two halves of a wheel's name (PEP 427, "File name convention"): its head, which is the name
-- and the version, each with `-` after it; and its end, which is what stands after them.
use Rattle.std.specs.Prelude.{◌≡◌, ℕ, List, ◌++◌, Option, ok_or, Result, Ok, string_bytes}
use Rattle.std.specs.Rc.{rc_str_bytes}
use Rattle.pytext.specs.Results.{◌>>=◌}
use Rattle.pywheel_core.specs.Tag.{TagValue}
use Rattle.pywheel_core.specs.Wheel.Cut.{end_of, stem_of}
use Rattle.pywheel_core.specs.Wheel.Reading.{build_in, tag_set_in, wheel_of}
use Rattle.pywheel_core.specs.Wheel.Value.{WheelValue}
use Rattle.pywheel_core.specs.declared.error.WheelError.{WheelError}
use Rattle.pywheel_core.specs.declared.error.WheelError.TheVariants as wheel
use Rattle.pywheel_core.specs.declared.halves.NameEnd.{NameEnd}
use Rattle.pywheel_core.specs.declared.halves.NameHead.{NameHead}

-- the build tag as written, the compressed tag set in lower case, and the tags of this
pub record EndValue : Type 0 where
  pub build : Option (List ℕ)
  pub tag_set : List ℕ
  pub tags : List TagValue

abbrev pub end_value : NameEnd → EndValue
end_value e = record { build = e.build; tag_set = rc_str_bytes e.tag_set; tags = e.tags.items }

-- the wheel of two halves
abbrev pub wheel_of_halves : NameHead → EndValue → WheelValue
wheel_of_halves head end = record {
  name = string_bytes head.name;
  version = head.version;
  build = end.build;
  tag_set = end.tag_set;
  tags = end.tags;
}

abbrev pub wheel_with : NameHead → NameEnd → WheelValue
wheel_with head end = wheel_of_halves head (end_value end)

-- what stands behind the version, `.whl` included
unfoldable pub end_in : List ℕ → Result EndValue WheelError
end_in text = do
  stem ← ok_or (stem_of text) wheel.Extension
  parts ← ok_or (end_of stem) wheel.Parts
  build ← build_in parts.0
  set ← tag_set_in parts.1
  Ok (record { build = build; tag_set = set.0; tags = set.1 })

-- before every end the text says this name and this version
abbrev pub IsHead : List ℕ → NameHead → Type 0
IsHead text head = (rest : List ℕ) (end : EndValue) → end_in rest ≡ Ok end
    → wheel_of (text ++ rest) ≡ Ok (wheel_of_halves head end)

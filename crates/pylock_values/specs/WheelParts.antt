-- What the name of a wheel says, part by part (PEP 427, "File name convention").
use Rattle.std.specs.Prelude.{ℕ, List, [], ◌∷◌, ◌++◌, map, Option, Some, option_map}
use Rattle.pyver_core.specs.Name.{normal_name}
use Rattle.pyver_core.specs.Version.Normal.{decimal_text, normal_text}
use Rattle.pywheel_core.specs.Wheel.Build.{build_number, build_rest}
use Rattle.pywheel_core.specs.Wheel.Value.{WheelValue}
use Rattle.pylock_values.specs.Record.{record_of}
use Rattle.pylock_values.specs.Tags.{tag_part}

-- the number of a build tag, and what stands behind its digits
abbrev pub build_parts : Option (List ℕ) → List (Option (List ℕ))
build_parts build = option_map (λ b. decimal_text (build_number b)) build
    ∷ option_map build_rest build ∷ []

-- the normal forms of the name and of the version, the build tag, and each tag
abbrev pub wheel_parts : WheelValue → List (Option (List ℕ))
wheel_parts wheel = Some (normal_name wheel.name) ∷ Some (normal_text wheel.version)
    ∷ (build_parts wheel.build ++ map tag_part wheel.tags)

abbrev pub wheel_parts_record : WheelValue → List ℕ
wheel_parts_record wheel = record_of (wheel_parts wheel)

-- The parts of texts that are read by themselves: a requirement (PEP 508, "Grammar"), and the file
-- names of a wheel (PEP 427, "File name convention") and of an sdist (PEP 625). An absent part has
-- no member.
use Rattle.std.specs.Prelude.{ℕ, List, [], ◌∷◌, codes, map, Option, None, Some, option_map}
use Rattle.serde_json.specs.Data.{Data}
use Rattle.pylock_json.specs.Json.{Row, maybe, object_of, texts_of, there}
use Rattle.pyver_core.specs.Name.{normal_name}
use Rattle.pyver_core.specs.Set.Normal.{set_text}
use Rattle.pyver_core.specs.Version.Normal.{normal_text}
use Rattle.pyver_core.specs.declared.set.specifier.Specifier.{Specifier}
use Rattle.pymark_core.specs.Requirement.Value.{RequirementValue}
use Rattle.pywheel_core.specs.Sdist.Value.{SdistValue}
use Rattle.pywheel_core.specs.Tag.{tag_text}
use Rattle.pywheel_core.specs.Wheel.Value.{WheelValue}

-- names in normal form, absent where there are none
abbrev pub names_data : List (List ℕ) → Option Data
names_data [] = None
names_data (name ∷ names) = Some (texts_of (map normal_name (name ∷ names)))

-- the normal text of a specifier set, absent where it is empty
abbrev pub specifiers_text : List Specifier → Option (List ℕ)
specifiers_text [] = None
specifiers_text (specifier ∷ specifiers) = Some (set_text (specifier ∷ specifiers))

abbrev pub requirement_parts : RequirementValue → List Row
requirement_parts requirement =
    (codes "name", there (normal_name requirement.name))
    ∷ (codes "extras", names_data requirement.extras)
    ∷ (codes "specifier", maybe (specifiers_text requirement.set))
    ∷ (codes "url", maybe requirement.url)
    ∷ (codes "marker", maybe (option_map (λ marker. marker.text) requirement.marker))
    ∷ []

abbrev pub wheel_parts : WheelValue → List Row
wheel_parts wheel =
    (codes "name", there (normal_name wheel.name))
    ∷ (codes "version", there (normal_text wheel.version))
    ∷ (codes "build", maybe wheel.build)
    ∷ (codes "tags", Some (texts_of (map tag_text wheel.tags)))
    ∷ []

abbrev pub sdist_parts : SdistValue → List Row
sdist_parts sdist =
    (codes "name", there sdist.name) ∷ (codes "version", there (normal_text sdist.version)) ∷ []

-- ---- the documents: the parts under the word of the command

abbrev pub requirement_rows : RequirementValue → List Row
requirement_rows requirement =
    (codes "requirement", Some (object_of (requirement_parts requirement))) ∷ []

abbrev pub wheel_rows : WheelValue → List Row
wheel_rows wheel = (codes "wheel", Some (object_of (wheel_parts wheel))) ∷ []

abbrev pub sdist_rows : SdistValue → List Row
sdist_rows sdist = (codes "sdist", Some (object_of (sdist_parts sdist))) ∷ []

-- The records of what the name of a wheel says (PEP 427).
use Rattle.std.specs.Prelude.{ℕ, List, [], ◌∷◌, codes, Option, Some, Result, Ok}
use Rattle.std.specs.List.{join_by}
use Rattle.pytext.specs.Results.{◌>>=◌}
use Rattle.pyver_core.specs.Version.Normal.{normal_text}
use Rattle.pywheel_core.specs.Tag.{tag_text}
use Rattle.pywheel_core.specs.Wheel.Reading.{wheel_of}
use Rattle.pywheel_core.specs.Wheel.Value.{WheelValue}
use Rattle.pylock_values.specs.Record.{record_of}
use Rattle.pylock_values.specs.WheelParts.{wheel_parts_record}
use Rattle.pylock_slots.specs.Refusal.{refuse_as, wheel_refusal}
use Rattle.pylock_slots.specs.Text.{text_of}
use Rattle.pylock_slots.specs.declared.refusal.Refusal.{Refusal}

-- the name as written, the normal form of the version, the build tag as written, the tags
abbrev pub parts_of : WheelValue → List (Option (List ℕ))
parts_of wheel =
    Some wheel.name ∷ Some (normal_text wheel.version) ∷ wheel.build
    ∷ Some (join_by tag_text (codes " ") wheel.tags) ∷ []

abbrev pub wheel_record : List ℕ → Result (List ℕ) Refusal
wheel_record bytes = do
  text ← text_of bytes
  wheel ← refuse_as wheel_refusal (wheel_of text)
  Ok (record_of (parts_of wheel))

-- the same, with the build tag in two parts and each tag as a field of its own
abbrev pub wheel_parts_of : List ℕ → Result (List ℕ) Refusal
wheel_parts_of bytes = do
  text ← text_of bytes
  wheel ← refuse_as wheel_refusal (wheel_of text)
  Ok (wheel_parts_record wheel)

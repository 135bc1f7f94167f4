-- Markers of C.
use Rattle.std.specs.Prelude.{ℕ, Bool, List, Option, Some, Result, Ok, Err}
use Rattle.pytext.specs.Results.{◌>>=◌}
use Rattle.pymark_core.specs.Environment.{EnvironmentValue}
use Rattle.pymark_core.specs.Marker.Reading.{MarkerValue, marker_of}
use Rattle.pymark_core.specs.Marker.Value.{marker_value, value_with}
use Rattle.pylock_values.specs.MarkerPieces.{marker_record}
use Rattle.pylock_slots.specs.Refusal.{evaluation_refusal, marker_refusal, refuse_as}
use Rattle.pylock_slots.specs.Text.{text_of}
use Rattle.pylock_slots.specs.declared.object.Object.{Object}
use Rattle.pylock_slots.specs.declared.object.Object.TheVariants as kind
use Rattle.pylock_slots.specs.declared.refusal.Refusal.{Refusal}
use Rattle.pylock_slots.specs.declared.refusal.Refusal.TheVariants as refusal

abbrev pub parsed : List ℕ → Result (Option Object) Refusal
parsed bytes = do
  text ← text_of bytes
  marker ← refuse_as marker_refusal (marker_of text)
  Ok (Some (kind.Marker marker))

abbrev pub marker_in : Option Object → Result MarkerValue Refusal
marker_in (Some (kind.Marker marker)) = Ok marker
marker_in other = Err refusal.Empty

abbrev pub marker_text_in : Option Object → Result (List ℕ) Refusal
marker_text_in object = do
  marker ← marker_in object
  Ok marker.text

-- the record of the pieces of a kept marker
abbrev pub tree_in : Option Object → Result (List ℕ) Refusal
tree_in object = do
  marker ← marker_in object
  Ok (marker_record marker.tree)

abbrev pub environment_in : Option Object → Result EnvironmentValue Refusal
environment_in (Some (kind.Environment environment)) = Ok environment
environment_in other = Err refusal.Empty

-- the value of a kept marker in a kept environment
abbrev pub value_in : Option Object → Option Object → Result Bool Refusal
value_in marker environment = do
  marker ← marker_in marker
  environment ← environment_in environment
  refuse_as evaluation_refusal (marker_value environment marker.tree)

-- the same where the operand `extra` has this text (PEP 685)
abbrev pub value_with_extra_in : Option Object → Option Object → List ℕ → Result Bool Refusal
value_with_extra_in marker environment extra = do
  marker ← marker_in marker
  environment ← environment_in environment
  text ← text_of extra
  refuse_as evaluation_refusal (value_with (Some text) environment marker.tree)

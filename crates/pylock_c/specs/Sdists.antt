-- The record of what the name of a source distribution says (PEP 625).
use Rattle.std.specs.Prelude.{ℕ, List, [], ◌∷◌, Option, Some, Result, Ok}
use Rattle.pytext.specs.Results.{◌>>=◌}
use Rattle.pyver_core.specs.Version.Normal.{normal_text}
use Rattle.pywheel_core.specs.Sdist.Reading.{sdist_of}
use Rattle.pywheel_core.specs.Sdist.Value.{SdistValue}
use Rattle.pylock_values.specs.Record.{record_of}
use Rattle.pylock_slots.specs.Refusal.{refuse_as, sdist_refusal}
use Rattle.pylock_slots.specs.Text.{text_of}
use Rattle.pylock_slots.specs.declared.refusal.Refusal.{Refusal}

-- the normal form of the name, and that of the version
abbrev pub parts_of : SdistValue → List (Option (List ℕ))
parts_of sdist = Some sdist.name ∷ Some (normal_text sdist.version) ∷ []

abbrev pub sdist_record : List ℕ → Result (List ℕ) Refusal
sdist_record bytes = do
  text ← text_of bytes
  sdist ← refuse_as sdist_refusal (sdist_of text)
  Ok (record_of (parts_of sdist))

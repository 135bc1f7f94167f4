-- The record of a requirement's parts, as they are written (PEP 508).
use Rattle.std.specs.Prelude.{ℕ, List, [], ◌∷◌, codes, Option, Some, option_map, unwrap_or}
use Rattle.std.specs.Prelude.{Result, Ok}
use Rattle.pytext.specs.Results.{◌>>=◌}
use Rattle.pyver_core.specs.Set.Normal.{specifier_text}
use Rattle.pymark_core.specs.Requirement.Reading.{requirement_of, written_set_of}
use Rattle.pymark_core.specs.Requirement.Value.{RequirementValue}
use Rattle.pylock_values.specs.Record.{joined, record_of}
use Rattle.pylock_slots.specs.Refusal.{refuse_as, requirement_refusal}
use Rattle.pylock_slots.specs.Text.{text_of}
use Rattle.pylock_slots.specs.declared.refusal.Refusal.{Refusal}

-- the name, the extras, the normal form of the specifier set, the URL, the marker
abbrev pub parts_of : RequirementValue → List (Option (List ℕ))
parts_of requirement =
    Some requirement.name ∷ joined (λ extra. extra) (codes ",") requirement.extras
    ∷ joined specifier_text (codes ",") requirement.set ∷ requirement.url
    ∷ option_map (λ marker. marker.text) requirement.marker ∷ []

abbrev pub requirement_record : List ℕ → Result (List ℕ) Refusal
requirement_record bytes = do
  text ← text_of bytes
  requirement ← refuse_as requirement_refusal (requirement_of text)
  Ok (record_of (parts_of requirement))

-- the specifiers as they are written, without the parentheses round them: of a requirement they
-- read as its set (the law `written_sets_are_read` of `pymark_core`); empty where it has a URL
abbrev pub requirement_set : List ℕ → Result (List ℕ) Refusal
requirement_set bytes = do
  text ← text_of bytes
  written ← refuse_as requirement_refusal (written_set_of text)
  Ok (unwrap_or written [])

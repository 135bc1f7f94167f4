-- What `show` prints: a line for each thing that a lock says of itself.
use Rattle.std.specs.Prelude.{ℕ, List, [], ◌∷◌, decimal, map, Some, None}
use Rattle.std.specs.List.{flat_map}
use Rattle.pylock_run.specs.Text.Field.{line_of}
use Rattle.pylock_summary.specs.Fact.{FactValue, OfNumber, OfText, OfTexts, ToldValue}
use Rattle.pylock_program.specs.Text.Safe.{safe_field}

abbrev pub texts_fields : List (List ℕ) → List (List ℕ)
texts_fields texts = map (λ text. safe_field (Some text)) texts

-- fields that are safe to show; one that is absent stands for no text
abbrev pub told_fields : ToldValue → List (List ℕ)
told_fields (OfText text) = safe_field text ∷ []
told_fields (OfTexts []) = safe_field None ∷ []
told_fields (OfTexts (text ∷ texts)) = texts_fields (text ∷ texts)
told_fields (OfNumber number) = decimal number ∷ []

-- the key, and what is told
abbrev pub fact_line : FactValue → List ℕ
fact_line fact = line_of fact.key (told_fields fact.told)

abbrev pub summary_text : List FactValue → List ℕ
summary_text facts = flat_map fact_line facts

-- What a lock says of itself under one key.
use Rattle.std.specs.Prelude.{ℕ, List, map, Option, option_map}
use Rattle.pylock_shown.specs.Hidden.{hidden}
use Rattle.pylock_summary.specs.declared.fact.Told.{Told}
use Rattle.pylock_summary.specs.declared.fact.Told.TheVariants as told

-- a text that may be absent, texts, or a number
pub data ToldValue : Type 0 where
  OfText : Option (List ℕ) → ToldValue
  OfTexts : List (List ℕ) → ToldValue
  OfNumber : ℕ → ToldValue

abbrev pub told_view : Told → ToldValue
told_view (told.Text text) = OfText text
told_view (told.Texts texts) = OfTexts texts.items
told_view (told.Number number) = OfNumber number

pub record FactValue : Type 0 where
  pub key : List ℕ
  pub told : ToldValue

-- ---- facts of a lock, whose texts are shown without what may open a URL

abbrev pub text_fact : List ℕ → Option (List ℕ) → FactValue
text_fact key text = record { key = key; told = OfText (option_map hidden text) }

abbrev pub texts_fact : List ℕ → List (List ℕ) → FactValue
texts_fact key texts = record { key = key; told = OfTexts (map hidden texts) }

abbrev pub number_fact : List ℕ → ℕ → FactValue
number_fact key number = record { key = key; told = OfNumber number }

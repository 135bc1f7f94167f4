-- The document of what a lock says of itself.
use Rattle.std.specs.Prelude.{List, map, Option, Some}
use Rattle.serde_json.specs.Data.{Data}
use Rattle.pylock_json.specs.Json.{Row, maybe, numbered, texts_of}
use Rattle.pylock_summary.specs.Fact.{FactValue, OfNumber, OfText, OfTexts, ToldValue}

-- what stands under a key; an absent text has no member
abbrev pub told_data : ToldValue → Option Data
told_data (OfText text) = maybe text
told_data (OfTexts texts) = Some (texts_of texts)
told_data (OfNumber number) = numbered number

abbrev pub fact_row : FactValue → Row
fact_row fact = (fact.key, told_data fact.told)

abbrev pub summary_rows : List FactValue → List Row
summary_rows facts = map fact_row facts

-- The record of the tags that a text stands for (PEP 425).
use Rattle.std.specs.Prelude.{ℕ, List, ok_or, Result}
use Rattle.pytext.specs.Results.{◌>>=◌}
use Rattle.pylock_values.specs.Tags.{tags_record}
use Rattle.pylock_slots.specs.Text.{text_of}
use Rattle.pylock_slots.specs.declared.refusal.Refusal.{Refusal}
use Rattle.pylock_slots.specs.declared.refusal.Refusal.TheVariants.{TagParts}

abbrev pub tags_of : List ℕ → Result (List ℕ) Refusal
tags_of bytes = do
  text ← text_of bytes
  ok_or (tags_record text) TagParts

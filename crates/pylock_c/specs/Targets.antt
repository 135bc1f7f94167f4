-- The text of the environment of a target (PEP 425, PEP 508).
use Rattle.std.specs.Prelude.{ℕ, List, Result, Ok}
use Rattle.pytext.specs.Results.{◌>>=◌}
use Rattle.pylock_documents.specs.Environment.{target_text}
use Rattle.pywheel_core.specs.Target.Reading.{target_of}
use Rattle.pylock_slots.specs.Refusal.{refuse_as, target_refusal}
use Rattle.pylock_slots.specs.Text.{text_of}
use Rattle.pylock_slots.specs.declared.refusal.Refusal.{Refusal}

-- both texts are judged as texts first, from the left
abbrev pub environment_of_target : List ℕ → List ℕ → Result (List ℕ) Refusal
environment_of_target python platform = do
  python ← text_of python
  platform ← text_of platform
  target ← refuse_as target_refusal (target_of python platform)
  Ok (target_text target)

-- What `explain` prints: what becomes of the head and of each entry, judged for itself, and why.
use Rattle.std.specs.Prelude.{ℕ, ◌++◌, List, [], ◌∷◌, codes, decimal, Option, Some, None}
use Rattle.std.specs.List.{flat_map}
use Rattle.std.specs.Option.{option_map_or}
use Rattle.pymark_core.specs.Environment.{EnvironmentValue}
use Rattle.pylock_readers.specs.Entry.{EntryValue}
use Rattle.pylock_readers.specs.Lock.{HeadValue}
use Rattle.pylock_core.specs.Session.Fates.{fates}
use Rattle.pylock_core.specs.Session.State.{State, entry_at}
use Rattle.pylock_core.specs.Session.Steps.{head_fault}
use Rattle.pylock_core.specs.declared.answer.FaultCode.{FaultCode}
use Rattle.pylock_core.specs.declared.fate.Fate.{Fate}
use Rattle.pylock_run.specs.Text.Field.{field, line_of}
use Rattle.pylock_program.specs.Text.Safe.{safe_field}
use Rattle.pylock_documents.specs.Reasons.{detail, head_detail, shown_version}
use Rattle.pylock_core.specs.Words.{fault_word, verdict_word}

-- number, name, version, verdict, detail
abbrev pub verdict_line : ℕ → EntryValue → List ℕ → Option (List ℕ) → List ℕ
verdict_line number entry verdict detail =
    line_of (decimal number)
    (field (Some entry.name) ∷ safe_field (shown_version entry) ∷ verdict ∷ safe_field detail ∷ [])

abbrev pub entry_line : State → ℕ → Fate → EntryValue → List ℕ
entry_line state number fate entry =
    verdict_line number entry (verdict_word entry fate) (detail state entry fate)

-- the line of a fate; its number is that of an entry, so the line is never left out
abbrev pub fate_text : State → ℕ × Fate → List ℕ
fate_text state f = option_map_or (entry_line state f.0 f.1) (entry_at f.0 state.entries) []

-- the line of the head
abbrev pub head_fields : HeadValue → EnvironmentValue → Option FaultCode → List (List ℕ)
head_fields head environment None = codes "ok" ∷ safe_field None ∷ []
head_fields head environment (Some code) =
    fault_word code ∷ safe_field (head_detail head environment code) ∷ []

abbrev pub head_text : State → List ℕ
head_text state =
    line_of (codes "head")
    (head_fields state.head state.environment (head_fault state.head state.environment))

-- the head, and then each entry in order
abbrev pub explain_text : State → List ℕ
explain_text state = head_text state ++ flat_map (fate_text state) (fates state)

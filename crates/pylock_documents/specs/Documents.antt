-- The documents of answers: the members of the object that each command shows.
use Rattle.std.specs.Prelude.{ℕ, ◌+◌, ◌++◌, List, [], ◌∷◌, codes, map, Option, Some, None}
use Rattle.std.specs.Prelude.{Bool, option_and_then, option_map}
use Rattle.std.specs.List.{flat_map, list_any}
use Rattle.std.specs.Option.{option_map_or}
use Rattle.std.specs.Str.{bytes_eq}
use Rattle.serde_json.specs.Data.{Data}
use Rattle.pylock_json.specs.Json.{Row, list_of, maybe, maybe_numbered, numbered, object_of}
use Rattle.pylock_json.specs.Json.{texts_of, there}
use Rattle.pylock_messages.specs.Diagnostic.{DiagnosticValue}
use Rattle.pyver_core.specs.Set.Normal.{set_text}
use Rattle.pylock_readers.specs.Entry.{EntryValue}
use Rattle.pylock_readers.specs.Lock.{HeadValue}
use Rattle.pylock_core.specs.Session.Fates.{fate_at, fates}
use Rattle.pylock_core.specs.Session.Picks.{source_in, sources}
use Rattle.pylock_core.specs.Session.State.{State, entry_at}
use Rattle.pylock_core.specs.Session.Steps.{head_fault}
use Rattle.pylock_core.specs.declared.answer.Answer.{Answer}
use Rattle.pylock_core.specs.declared.answer.Answer.TheVariants.{Plan, Fault}
use Rattle.pylock_core.specs.declared.answer.FaultCode.{FaultCode}
use Rattle.pylock_core.specs.declared.answer.Pick.{Pick}
use Rattle.pylock_core.specs.declared.fate.Fate.{Fate}
use Rattle.pylock_documents.specs.Reasons.{detail, head_detail, shown_version}
use Rattle.pylock_core.specs.Words.{fault_word, verdict_word}
use Rattle.pylock_documents.specs.Source.{entry_rows, source_data}

-- what may be absent, as a list of one item or none
abbrev pub where_there : {X : Type 0} → (X → Data) → Option X → List Data
where_there shown found = option_map_or (λ x. shown x ∷ []) found []

-- ---- plan

-- the source of a pick; its number is that of an entry that has the source, so it is there
abbrev pub pick_data : State → Pick → List Data
pick_data state pick =
    option_map_or
    (λ entry. where_there (source_data pick.id entry) (source_in entry pick.source))
    (entry_at pick.id state.entries) []

-- why: of the entry that has the fault, or of the head where it is no entry's
abbrev pub detail_by : State → ℕ → FaultCode → Option Fate → Option (List ℕ)
detail_by state number code None = head_detail state.head state.environment code
detail_by state number code (Some fate) =
    option_and_then (λ entry. detail state entry fate) (entry_at number state.entries)

abbrev pub fault_detail : State → ℕ → FaultCode → Option (List ℕ)
fault_detail state number code = detail_by state number code (fate_at number state)

abbrev pub fault_rows : State → ℕ → FaultCode → List Row
fault_rows state number code =
    (codes "id", numbered number)
    ∷ (codes "name", maybe (option_map (λ entry. entry.name) (entry_at number state.entries)))
    ∷ (codes "code", there (fault_word code))
    ∷ (codes "detail", maybe (fault_detail state number code))
    ∷ []

-- the picks in order, or the fault
abbrev pub answer_rows : State → Answer → List Row
answer_rows state (Plan picks) =
    (codes "plan", Some (list_of (flat_map (pick_data state) picks))) ∷ []
answer_rows state (Fault number code) =
    (codes "fault", Some (object_of (fault_rows state number code))) ∷ []

-- ---- files

-- the sources of the entries, the first of which has this number
abbrev pub files_from : ℕ → List EntryValue → List Data
files_from number [] = []
files_from number (entry ∷ entries) =
    map (λ s. source_data number entry s.1) (sources entry) ++ files_from (number + 1) entries

abbrev pub files_rows : List EntryValue → List Row
files_rows entries = (codes "files", Some (list_of (files_from 1 entries))) ∷ []

-- the document of those that picks name
abbrev pub picked_rows : State → List Pick → List Row
picked_rows state picks =
    (codes "files", Some (list_of (flat_map (pick_data state) picks))) ∷ []

-- ---- explain

abbrev pub verdict_rows : List ℕ → Option (List ℕ) → List Row
verdict_rows verdict detail = (codes "verdict", there verdict) ∷ (codes "detail", maybe detail) ∷ []

abbrev pub head_rows : State → Option FaultCode → List Row
head_rows state None = verdict_rows (codes "ok") None
head_rows state (Some code) =
    verdict_rows (fault_word code) (head_detail state.head state.environment code)

abbrev pub head_data : State → Data
head_data state = object_of (head_rows state (head_fault state.head state.environment))

abbrev pub fate_rows : State → ℕ → Fate → EntryValue → List Row
fate_rows state number fate entry =
    entry_rows number entry (shown_version entry)
    ++ verdict_rows (verdict_word entry fate) (detail state entry fate)

-- the verdict on an entry; the number of a fate is that of an entry, so it is there
abbrev pub verdict_data : State → ℕ × Fate → List Data
verdict_data state f =
    where_there (λ entry. object_of (fate_rows state f.0 f.1 entry)) (entry_at f.0 state.entries)

-- the head, and then each entry in order
abbrev pub explain_rows : State → List Row
explain_rows state =
    (codes "head", Some (head_data state))
    ∷ (codes "entries", Some (list_of (flat_map (verdict_data state) (fates state))))
    ∷ []

-- ---- refused

-- where a file is wrong, or why something else is refused
abbrev pub diagnostic_rows : DiagnosticValue → List Row
diagnostic_rows diagnostic =
    (codes "message", there diagnostic.message)
    ∷ (codes "file", maybe diagnostic.file)
    ∷ (codes "line", maybe_numbered diagnostic.line)
    ∷ (codes "column", maybe_numbered diagnostic.column)
    ∷ (codes "entry", maybe_numbered diagnostic.entry)
    ∷ (codes "name", maybe diagnostic.name)
    ∷ (codes "key", maybe diagnostic.key)
    ∷ []

-- the words of a refusal, and beside them what is told of it
abbrev pub refused_rows : List (List ℕ) → Option DiagnosticValue → List Row
refused_rows words diagnostic =
    (codes "refused", Some (texts_of words)) ∷ option_map_or diagnostic_rows diagnostic []

-- of a line of the input, which has this number
abbrev pub refused_line_rows : ℕ → List (List ℕ) → List Row
refused_line_rows number words = refused_rows words None ++ (codes "line", numbered number) ∷ []

-- the keys that a refusal's document may have beside `pylock`
abbrev pub is_refusal_key : List ℕ → Bool
is_refusal_key key = list_any (λ k. bytes_eq key k) (
    codes "refused" ∷ codes "message" ∷ codes "file" ∷ codes "line" ∷ codes "column"
    ∷ codes "entry" ∷ codes "name" ∷ codes "key" ∷ [])

-- ---- the head of a lock

abbrev pub lock_head_rows : HeadValue → List Row
lock_head_rows head =
    (codes "requires_python", maybe (option_map set_text head.requires_python))
    ∷ (codes "environments", Some (texts_of (map (λ m. m.text) head.environments)))
    ∷ (codes "extras", Some (texts_of head.extras))
    ∷ (codes "groups", Some (texts_of head.groups))
    ∷ (codes "default_groups", Some (texts_of head.default_groups))
    ∷ []

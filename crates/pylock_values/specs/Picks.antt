-- An answer for a program: a line for each pick, or the line of the fault (PEP 751,
-- "Installation").
use Rattle.std.specs.Prelude.{ℕ, ◌+◌, List, [], ◌∷◌, decimal, length, nat_lt}
use Rattle.std.specs.Prelude.{if◌then◌else◌, Option, Some, None, option_map}
use Rattle.std.specs.List.{flat_map}
use Rattle.std.specs.Option.{option_map_or}
use Rattle.pylock_readers.specs.Entry.{EntryValue}
use Rattle.pylock_core.specs.Session.Picks.{SourceValue, source_commit_id, source_file_name}
use Rattle.pylock_core.specs.Session.Picks.{source_hashes, source_in, source_location}
use Rattle.pylock_core.specs.Session.Picks.{source_subdirectory, source_vcs_kind, source_word}
use Rattle.pylock_core.specs.Session.State.{State, entry_at}
use Rattle.pylock_core.specs.Words.{fault_word}
use Rattle.pylock_core.specs.declared.answer.FaultCode.{FaultCode}
use Rattle.pylock_core.specs.declared.answer.Pick.{Pick}
use Rattle.pylock_core.specs.declared.answer.PickSource.{PickSource}
use Rattle.pylock_core.specs.declared.answer.PickSource.TheVariants as source
use Rattle.pylock_run.specs.Text.Field.{field, line_of}

-- ---- the line of a pick

-- the place of a wheel among those of its entry, from 1
abbrev pub wheel_place : EntryValue → PickSource → Option ℕ
wheel_place entry (source.Wheel place) =
    if nat_lt place (length entry.wheels) then Some (place + 1) else None
wheel_place entry other = None

abbrev pub place_text : Option ℕ → List ℕ
place_text place = option_map_or decimal place (field None)

-- the algorithm of a hash and its value
abbrev pub hash_fields : List ℕ × List ℕ → List (List ℕ)
hash_fields hash = field (Some hash.0) ∷ field (Some hash.1) ∷ []

-- what stands behind the version
abbrev pub source_fields : SourceValue → List (List ℕ)
source_fields source =
    field (source_file_name source) ∷ field (source_location source).url
    ∷ field (source_location source).path ∷ field (source_vcs_kind source)
    ∷ field (source_commit_id source) ∷ field (source_subdirectory source)
    ∷ flat_map hash_fields (source_hashes source)

-- number, kind, place, name and version, and what the source says
abbrev pub pick_line : ℕ → Option ℕ → EntryValue → SourceValue → List ℕ
pick_line number place entry source =
    line_of (decimal number) (source_word source ∷ place_text place ∷ field (Some entry.name)
    ∷ field entry.version ∷ source_fields source)

-- the line of a pick; its entry stands in the state and has the source, so it is never left out
abbrev pub pick_in : Pick → EntryValue → List ℕ
pick_in pick entry = option_map_or
    (pick_line pick.id (wheel_place entry pick.source) entry)
    (source_in entry pick.source) []

abbrev pub pick_text : State → Pick → List ℕ
pick_text state pick = option_map_or (pick_in pick) (entry_at pick.id state.entries) []

abbrev pub picks_text : State → List Pick → List ℕ
picks_text state picks = flat_map (pick_text state) picks

-- ---- the line of a fault: number, name, code and detail

abbrev pub name_at : State → ℕ → Option (List ℕ)
name_at state number = option_map (λ entry. entry.name) (entry_at number state.entries)

abbrev pub fault_line : State → ℕ → FaultCode → Option (List ℕ) → List ℕ
fault_line state number code detail =
    line_of (decimal number) (field (name_at state number) ∷ fault_word code ∷ field detail ∷ [])

-- An answer as it is printed: the lines of a plan, or a fault.
use Rattle.std.specs.Prelude.{ℕ, ◌++◌, List, [], ◌∷◌, length, Option, Some, None, option_map}
use Rattle.std.specs.Prelude.{codes, decimal, map}
use Rattle.std.specs.List.{flat_map, join_with_byte}
use Rattle.std.specs.Option.{option_map_or}
use Rattle.pylock_readers.specs.Entry.{EntryValue, VcsValue, place_of}
use Rattle.pylock_core.specs.Session.Picks.{SourceValue, source_file_name, source_hashes, source_in}
use Rattle.pylock_core.specs.Session.Picks.{source_location, source_subdirectory, source_vcs}
use Rattle.pylock_core.specs.Session.Picks.{source_word}
use Rattle.pylock_core.specs.Session.State.{State, entry_at}
use Rattle.pylock_core.specs.declared.answer.Answer.{Answer}
use Rattle.pylock_core.specs.declared.answer.Answer.TheVariants.{Plan, Fault}
use Rattle.pylock_core.specs.declared.answer.FaultCode.{FaultCode}
use Rattle.pylock_core.specs.declared.answer.Pick.{Pick}
use Rattle.pylock_core.specs.declared.answer.PickSource.{PickSource}
use Rattle.pylock_run.specs.Text.Field.{field, line_of}
use Rattle.pylock_core.specs.Words.{fault_word}

-- the hashes: `ALGORITHM=VALUE` joined by `,`, absent where there are none
abbrev pub hash_text : List ℕ × List ℕ → List ℕ
hash_text hash = hash.0 ++ codes "=" ++ hash.1

abbrev pub hashes_text : List (List ℕ × List ℕ) → Option (List ℕ)
hashes_text [] = None
hashes_text (hash ∷ hashes) = Some (join_with_byte 44 (map hash_text (hash ∷ hashes)))

-- the revision of a checkout: its kind, `@`, its commit
abbrev pub revision : VcsValue → List ℕ
revision vcs = vcs.kind ++ codes "@" ++ vcs.commit_id

-- from its kind on, the fields of a source: kind, file name, place, hashes, revision, subdirectory
abbrev pub source_fields : SourceValue → List (List ℕ)
source_fields source =
    source_word source
    ∷ field (source_file_name source) ∷ field (Some (place_of (source_location source)))
    ∷ field (hashes_text (source_hashes source)) ∷ field (option_map revision (source_vcs source))
    ∷ field (source_subdirectory source) ∷ []

-- number, name and version, and the fields of a source
abbrev pub source_line : ℕ → EntryValue → List (List ℕ) → List ℕ
source_line number entry fields =
    line_of (decimal number) (field (Some entry.name) ∷ field entry.version ∷ fields)

-- a picked source stands in its entry, so the fields are never left out
abbrev pub plan_line : ℕ → PickSource → EntryValue → List ℕ
plan_line number source entry =
    source_line number entry (option_map_or source_fields (source_in entry source) [])

-- the line of a pick; its number is that of an entry, so the line is never left out
abbrev pub pick_text : State → Pick → List ℕ
pick_text state pick =
    option_map_or (plan_line pick.id pick.source) (entry_at pick.id state.entries) []

abbrev pub fault_text : ℕ → FaultCode → List ℕ
fault_text id code = line_of (codes "fault " ++ decimal id) (fault_word code ∷ [])

-- an answer on a state: `plan K` and K lines, or the fault
abbrev pub answer_text : State → Answer → List ℕ
answer_text state (Plan picks) =
    codes "plan " ++ decimal (length picks) ++ codes "\n" ++ flat_map (pick_text state) picks
answer_text state (Fault id code) = fault_text id code

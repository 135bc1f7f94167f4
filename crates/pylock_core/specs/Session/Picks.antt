-- What a pick and a fault name: an entry that stands in the state, and of a pick has its source.
use Rattle.std.specs.Prelude.{◌≡◌, ◌⊎◌, ℕ, ◌<◌, ◌+◌, ◌++◌, Bool, true, false, codes, List, [], ◌∷◌}
use Rattle.std.specs.Prelude.{length, Option, Some, None, IsSome, option_and_then, option_map}
use Rattle.std.specs.Prelude.{slice_get}
use Rattle.std.specs.List.{Contains}
use Rattle.std.specs.Option.{option_map_or}
use Rattle.pylock_readers.specs.Entry.{EntryValue, ArchiveValue, DirectoryValue, FileValue}
use Rattle.pylock_readers.specs.Entry.{LocationValue, VcsValue, file_name}
use Rattle.pylock_core.specs.Session.State.{State}
use Rattle.pylock_core.specs.Session.Steps.{head_fault}
use Rattle.pylock_core.specs.Words.{directory_word}
use Rattle.pylock_core.specs.declared.answer.FaultCode.{FaultCode}
use Rattle.pylock_core.specs.declared.answer.Pick.{Pick}
use Rattle.pylock_core.specs.declared.answer.PickSource.{PickSource}
use Rattle.pylock_core.specs.declared.answer.PickSource.TheVariants as source
use Rattle.pylock_core.specs.declared.picked.NamedSource.{NamedSource}
use Rattle.pylock_core.specs.declared.picked.PickedSource.{PickedSource}
use Rattle.pylock_core.specs.declared.picked.PickedSource.TheVariants as picked

-- the entry has the source: its key is there; of its wheels, one stands at the place
abbrev pub HasSource : PickSource → EntryValue → Type 0
HasSource source.Vcs entry = IsSome entry.vcs
HasSource source.Directory entry = IsSome entry.directory
HasSource source.Archive entry = IsSome entry.archive
HasSource (source.Wheel place) entry = place < length entry.wheels
HasSource source.Sdist entry = IsSome entry.sdist

-- a source, with what its entry says of it
pub data SourceValue : Type 0 where
  OfVcs : VcsValue → SourceValue
  OfDirectory : DirectoryValue → SourceValue
  OfArchive : ArchiveValue → SourceValue
  OfWheel : FileValue → SourceValue
  OfSdist : FileValue → SourceValue

-- ---- what a source says

-- its kind: the key that it has in its entry (PEP 751, `packages`), of a wheel `wheel`; of a
-- directory that is installed in place `editable`
abbrev pub source_word : SourceValue → List ℕ
source_word (OfVcs vcs) = codes "vcs"
source_word (OfDirectory directory) = directory_word directory
source_word (OfArchive archive) = codes "archive"
source_word (OfWheel file) = codes "wheel"
source_word (OfSdist file) = codes "sdist"

-- the keys `url` and `path`; a directory has a path alone
abbrev pub source_location : SourceValue → LocationValue
source_location (OfVcs vcs) = vcs.location
source_location (OfDirectory directory) = record { url = None; path = Some directory.path }
source_location (OfArchive archive) = archive.location
source_location (OfWheel file) = file.location
source_location (OfSdist file) = file.location

-- a checkout or a directory, which is no file and has no key `hashes`
abbrev pub is_unhashed : SourceValue → Bool
is_unhashed (OfVcs vcs) = true
is_unhashed (OfDirectory directory) = true
is_unhashed source = false

-- the key `hashes`
abbrev pub source_hashes : SourceValue → List (List ℕ × List ℕ)
source_hashes (OfVcs vcs) = []
source_hashes (OfDirectory directory) = []
source_hashes (OfArchive archive) = archive.hashes
source_hashes (OfWheel file) = file.hashes
source_hashes (OfSdist file) = file.hashes

-- the key `subdirectory`, which an sdist and a wheel have not
abbrev pub source_subdirectory : SourceValue → Option (List ℕ)
source_subdirectory (OfVcs vcs) = vcs.subdirectory
source_subdirectory (OfDirectory directory) = directory.subdirectory
source_subdirectory (OfArchive archive) = archive.subdirectory
source_subdirectory source = None

-- the checkout that it is
abbrev pub source_vcs : SourceValue → Option VcsValue
source_vcs (OfVcs vcs) = Some vcs
source_vcs source = None

-- the keys `type` and `commit-id` of a checkout
abbrev pub source_vcs_kind : SourceValue → Option (List ℕ)
source_vcs_kind source = option_map (λ vcs. vcs.kind) (source_vcs source)

abbrev pub source_commit_id : SourceValue → Option (List ℕ)
source_commit_id source = option_map (λ vcs. vcs.commit_id) (source_vcs source)

-- the sdist or the wheel that it is, and its file name
abbrev pub source_file : SourceValue → Option FileValue
source_file (OfWheel file) = Some file
source_file (OfSdist file) = Some file
source_file source = None

abbrev pub source_file_name : SourceValue → Option (List ℕ)
source_file_name source = option_and_then file_name (source_file source)

-- ---- the sources of an entry

-- the source that is named in the entry, if the entry has it
abbrev pub source_in : EntryValue → PickSource → Option SourceValue
source_in entry source.Vcs = option_map OfVcs entry.vcs
source_in entry source.Directory = option_map OfDirectory entry.directory
source_in entry source.Archive = option_map OfArchive entry.archive
source_in entry (source.Wheel place) = option_map OfWheel (slice_get entry.wheels place)
source_in entry source.Sdist = option_map OfSdist entry.sdist

-- the source that is named, where the entry has it
abbrev pub source_where : EntryValue → PickSource → List (PickSource × SourceValue)
source_where entry name = option_map_or (λ s. (name, s) ∷ []) (source_in entry name) []

-- wheels, the first of them at this place
abbrev pub wheels_from : ℕ → List FileValue → List (PickSource × SourceValue)
wheels_from place [] = []
wheels_from place (file ∷ files) =
    (source.Wheel place, OfWheel file) ∷ wheels_from (place + 1) files

-- every source that an entry has, whatever machine it is for
abbrev pub sources : EntryValue → List (PickSource × SourceValue)
sources entry =
    source_where entry source.Vcs
    ++ source_where entry source.Directory
    ++ source_where entry source.Archive
    ++ wheels_from 0 entry.wheels
    ++ source_where entry source.Sdist

-- a source that is lent
abbrev pub lent_source : PickedSource → SourceValue
lent_source (picked.Vcs vcs) = OfVcs vcs.now
lent_source (picked.Directory directory) = OfDirectory directory.now
lent_source (picked.Archive archive) = OfArchive archive.now
lent_source (picked.Wheel wheel) = OfWheel wheel.now
lent_source (picked.Sdist sdist) = OfSdist sdist.now

-- the same, with its name
abbrev pub lent_named : NamedSource → PickSource × SourceValue
lent_named named = (named.name, lent_source named.source)

-- the number is that of an entry among these
abbrev pub StandsAmong : List (ℕ × EntryValue) → ℕ → Type 0
StandsAmong entries n = (entry : EntryValue) × Contains entries (n, entry)

-- the pick's number is that of an entry among these, which has the pick's source
abbrev pub IsPickAmong : List (ℕ × EntryValue) → Pick → Type 0
IsPickAmong entries pick =
    (entry : EntryValue) × Contains entries (pick.id, entry) × HasSource pick.source entry

-- the fault is the head's, under the number 0, or the head has none, and it is that of an entry
abbrev pub IsFaultIn : State → ℕ → FaultCode → Type 0
IsFaultIn state id code =
    ((id ≡ 0) × (head_fault state.head state.environment ≡ Some code))
    ⊎ ((head_fault state.head state.environment ≡ None) × StandsAmong state.entries id)

-- A source of an entry, as the members of an object. A key that is absent has no member.
use Rattle.std.specs.Prelude.{ℕ, ◌++◌, List, [], ◌∷◌, codes, map, Option, Some, None, option_map}
use Rattle.serde_json.specs.Data.{Data}
use Rattle.pylock_json.specs.Json.{Row, maybe, numbered, object_of, there}
use Rattle.pylock_readers.specs.Entry.{EntryValue, LocationValue, VcsValue, place_of}
use Rattle.pylock_core.specs.Session.Picks.{SourceValue, source_file_name, source_hashes}
use Rattle.pylock_core.specs.Session.Picks.{source_location, source_subdirectory, source_vcs}
use Rattle.pylock_core.specs.Session.Picks.{source_word}

-- the place, and the two keys that may give it
abbrev pub place_rows : LocationValue → List Row
place_rows location =
    (codes "place", there (place_of location))
    ∷ (codes "url", maybe location.url)
    ∷ (codes "path", maybe location.path)
    ∷ []

-- the hashes: the value of each algorithm, absent where there are none
abbrev pub hash_row : List ℕ × List ℕ → Row
hash_row hash = (hash.0, there hash.1)

abbrev pub hashes_data : List (List ℕ × List ℕ) → Option Data
hashes_data [] = None
hashes_data (hash ∷ hashes) = Some (object_of (map hash_row (hash ∷ hashes)))

-- the revision of a checkout
abbrev pub revision_data : VcsValue → Data
revision_data vcs =
    object_of ((codes "type", there vcs.kind) ∷ (codes "commit", there vcs.commit_id) ∷ [])

-- the members of a source
unfoldable pub source_rows : SourceValue → List Row
source_rows source =
    (codes "kind", there (source_word source))
    ∷ (codes "file", maybe (source_file_name source))
    ∷ place_rows (source_location source)
    ++ (codes "revision", option_map revision_data (source_vcs source))
    ∷ (codes "hashes", hashes_data (source_hashes source))
    ∷ (codes "subdirectory", maybe (source_subdirectory source))
    ∷ []

-- ---- a source with its entry

abbrev pub entry_rows : ℕ → EntryValue → Option (List ℕ) → List Row
entry_rows number entry version =
    (codes "id", numbered number)
    ∷ (codes "name", there entry.name)
    ∷ (codes "version", maybe version)
    ∷ []

-- the object of a source of the entry that has this number
abbrev pub source_data : ℕ → EntryValue → SourceValue → Data
source_data number entry source =
    object_of (entry_rows number entry entry.version ++ source_rows source)

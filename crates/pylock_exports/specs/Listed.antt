-- What is exported: the sources of a plan, or all that a lock names, each with its entry.
use Rattle.std.specs.Prelude.{ℕ, ◌+◌, ◌++◌, codes, List, [], ◌∷◌, map, if◌then◌else◌}
use Rattle.std.specs.Prelude.{Option, None, option_map}
use Rattle.std.specs.List.{find, flat_map}
use Rattle.std.specs.Option.{option_map_or}
use Rattle.std.specs.Str.{bytes_eq}
use Rattle.pylock_readers.specs.Entry.{EntryValue, file_name}
use Rattle.pylock_core.specs.Session.Picks.{SourceValue, is_unhashed, source_file, source_hashes}
use Rattle.pylock_core.specs.Session.Picks.{source_in, source_location, sources}
use Rattle.pylock_core.specs.Session.State.{State, entry_at}
use Rattle.pylock_core.specs.declared.answer.Pick.{Pick}
use Rattle.pylock_exports.specs.FileNames.{last_part}

-- a source of an entry, which has this number
pub record ListedValue : Type 0 where
  pub number : ℕ
  pub entry : EntryValue
  pub source : SourceValue

abbrev pub listed : ℕ → EntryValue → SourceValue → ListedValue
listed number entry source = record { number = number; entry = entry; source = source }

-- the source of a pick; its number is that of an entry that has the source, so it is there
abbrev pub picked_source : State → Pick → List ListedValue
picked_source state pick =
    option_map_or
    (λ entry. option_map_or (λ source. listed pick.id entry source ∷ [])
    (source_in entry pick.source) [])
    (entry_at pick.id state.entries) []

-- the sources of a plan, in its order
abbrev pub plan_sources : State → List Pick → List ListedValue
plan_sources state picks = flat_map (picked_source state) picks

-- every source of entries that have the numbers n, n + 1, .., whatever machine it is for
abbrev pub sources_from : ℕ → List EntryValue → List ListedValue
sources_from number [] = []
sources_from number (entry ∷ entries) =
    map (λ s. listed number entry s.1) (sources entry) ++ sources_from (number + 1) entries

-- ---- what a source has

-- where a file is fetched from
abbrev pub url_of : SourceValue → Option (List ℕ)
url_of source = if is_unhashed source then None else (source_location source).url

abbrev pub path_of : SourceValue → Option (List ℕ)
path_of source = if is_unhashed source then None else (source_location source).path

-- the path of a file that has no URL
abbrev pub path_alone : SourceValue → Option (List ℕ)
path_alone source = option_map_or (λ url. None) (url_of source) (path_of source)

-- what the URL of a file ends in, else its path
abbrev pub last_of : SourceValue → Option (List ℕ)
last_of source = last_part (url_of source) (path_of source)

-- that of an archive is what its URL ends in, else its path
abbrev pub file_name_of_source : SourceValue → Option (List ℕ)
file_name_of_source source = option_map_or file_name (source_file source) (last_of source)

-- the value of an algorithm among hashes
abbrev pub hash_of : List ℕ → List (List ℕ × List ℕ) → Option (List ℕ)
hash_of algorithm hashes =
    option_map (λ hash. hash.1) (find (λ hash. bytes_eq hash.0 algorithm) hashes)

abbrev pub sha256_of : SourceValue → Option (List ℕ)
sha256_of source = hash_of (codes "sha256") (source_hashes source)

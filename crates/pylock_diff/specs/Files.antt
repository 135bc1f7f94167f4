-- The files of a name: wheels and sdists by their file names, and archives by their places. A file
-- whose bytes changed under its name is what an auditor looks for, so it is told whatever else
-- changed.
use Rattle.std.specs.Prelude.{ℕ, Bool, true, false, not, ◌&&◌, ◌++◌, List, [], ◌∷◌, codes, Option}
use Rattle.std.specs.Prelude.{Some, None, is_some, if◌then◌else◌}
use Rattle.std.specs.List.{flat_map, join_by}
use Rattle.std.specs.Option.{option_map_or}
use Rattle.pylock_readers.specs.Entry.{LocationValue, place_of}
use Rattle.pylock_core.specs.Session.Picks.{SourceValue, OfArchive, source_file_name}
use Rattle.pylock_core.specs.Session.Picks.{source_location}
use Rattle.pylock_places.specs.Shown.{shown_place}
use Rattle.pylock_diff.specs.Change.{ChangeValue, change_of, if_both, told_where}
use Rattle.pylock_diff.specs.Hashes.{are_same_sets, hashes_told}
use Rattle.pylock_diff.specs.Item.{ItemValue}
use Rattle.pylock_compare.specs.Rows.{Row, in_order, under_each}
use Rattle.pylock_diff.specs.declared.change.ChangeKind.TheVariants.{Place}

-- ---- what a name has

-- the file name of a wheel or an sdist; or the place of an archive
abbrev pub name_by : (archives : Bool) → SourceValue → Option (List ℕ)
name_by false source = source_file_name source
name_by true (OfArchive archive) = Some (place_of archive.location)
name_by true source = None

-- a source under that name, if it has one
abbrev pub file_in : Bool → SourceValue → List (Row SourceValue)
file_in archives source = option_map_or (λ name. (name, source) ∷ []) (name_by archives source) []

-- the wheels and sdists of a name, or its archives, each under that name
abbrev pub files_of : Bool → List ItemValue → List (Row SourceValue)
files_of archives items = flat_map (λ item. flat_map (file_in archives) item.sources) items

-- ---- hashes

-- the hashes of files by file name, and then of archives by place
abbrev pub hash_changes : List ℕ → (olds news : List ItemValue) → List ChangeValue
hash_changes name olds news =
    under_each (λ file. hashes_told name) (files_of false olds) (files_of false news)
    ++ under_each (λ place. hashes_told name) (files_of true olds) (files_of true news)

-- ---- places

-- the URL of a file, or its path
abbrev pub part_of : (urls : Bool) → SourceValue → Option (List ℕ)
part_of urls file = if urls then (source_location file).url else (source_location file).path

abbrev pub parts_of : Bool → List SourceValue → List (List ℕ)
parts_of urls files =
    flat_map (λ file. option_map_or (λ part. part ∷ []) (part_of urls file) []) files

-- the path and the URL as they are shown, where they are there
abbrev pub shown_places : LocationValue → List (List ℕ)
shown_places location =
    (if is_some location.path
    then shown_place (record { url = None; path = location.path }) ∷ [] else [])
    ++ (if is_some location.url
    then shown_place (record { url = location.url; path = None }) ∷ [] else [])

-- the places of files of one name, as they are shown
abbrev pub places_text : List SourceValue → List ℕ
places_text files =
    join_by (λ place. place) (codes ",")
    (in_order (flat_map (λ file. shown_places (source_location file)) files))

-- the files of a name have other URLs, or other paths, where both locks have some
abbrev pub places_told : List ℕ → (olds news : List SourceValue) → List ChangeValue
places_told name = if_both (λ olds news. told_where
    (not (are_same_sets (parts_of true olds) (parts_of true news)
    && are_same_sets (parts_of false olds) (parts_of false news)))
    (change_of Place name (Some (places_text olds)) (Some (places_text news))))

abbrev pub place_changes : List ℕ → (olds news : List ItemValue) → List ChangeValue
place_changes name olds news =
    under_each (λ file. places_told name) (files_of false olds) (files_of false news)

-- The two requirements files of a plan, as pip and uv read them (PEP 508, "direct references"; pip,
-- "Requirements File Format"): what has hashes, and checkouts and directories. They are to be given
-- with `--no-deps`, and their paths are meant from the lock's folder.
use Rattle.std.specs.Prelude.{[], ℕ, Bool, false, ◌&&◌, ◌||◌, ◌++◌, not, codes, List, ◌∷◌, Option}
use Rattle.std.specs.Prelude.{Some, None, is_none, is_some, option_and_then, option_map, Result, Ok}
use Rattle.std.specs.Prelude.{Err, ⊤, filter, map, nat_eq, unwrap_or, if◌then◌else◌}
use Rattle.std.specs.List.{ends_with}
use Rattle.std.specs.Option.{option_map_or}
use Rattle.std.specs.Str.{bytes_eq}
use Rattle.pytext.specs.Bytes.{starts}
use Rattle.pytext.specs.Options.{either}
use Rattle.pytext.specs.Results.{◌>>=◌}
use Rattle.pylock_readers.specs.Entry.{DirectoryValue, VcsValue}
use Rattle.pylock_readers.specs.Entry.FileName.{is_slash}
use Rattle.pylock_core.specs.Session.Picks.{SourceValue, OfVcs, OfDirectory, OfSdist, is_unhashed}
use Rattle.pylock_core.specs.Session.Picks.{source_file, source_file_name, source_hashes}
use Rattle.pylock_core.specs.Session.Picks.{source_location, source_subdirectory}
use Rattle.pylock_exports.specs.FileNames.{ends_as_file, is_wheel_end, last_step}
use Rattle.pylock_exports.specs.FileNames.{project_check, sdist_project, wheel_project}
use Rattle.pylock_exports.specs.Listed.{ListedValue, hash_of, last_of}
use Rattle.pylock_exports.specs.Parts.{Check, any_url_check, at_number, checkout_url_check}
use Rattle.pylock_exports.specs.Parts.{commit_check, directory_path_check, end_check, hash_check}
use Rattle.pylock_exports.specs.Parts.{kind_check, missing, name_check, path_check, require}
use Rattle.pylock_exports.specs.Parts.{subdirectory_check, there, where_there}
use Rattle.pylock_exports.specs.declared.requirements.PlanPart.{PlanPart}
use Rattle.pylock_exports.specs.declared.requirements.PlanPart.TheVariants as part
use Rattle.pylock_exports.specs.declared.refusal.Field.TheVariants as field
use Rattle.pylock_exports.specs.declared.refusal.ExportError.{ExportError}
use Rattle.pylock_exports.specs.declared.refusal.Reason.TheVariants as reason

-- ---- where a file lies

-- the URL, else the path, which ends in this file name
abbrev pub place_check : (url path last : Option (List ℕ)) → Check
place_check (Some url) path last = any_url_check url >>= (λ _. end_check field.UrlEnd last)
place_check None path last =
    there field.Path path_check path >>= (λ _. end_check field.PathEnd last)

-- it is written as a path: it has no URL, and the path doesn't begin with `/`
abbrev pub is_relative : (url path : Option (List ℕ)) → Bool
is_relative url path = is_none url && not (starts is_slash (unwrap_or path []))

-- ---- its hash

-- a hash of this algorithm, with the digits of that
abbrev pub hash_with : List ℕ → ℕ → List (List ℕ × List ℕ) → Option (List ℕ × ℕ × List ℕ)
hash_with algorithm digits hashes =
    option_map (λ value. (algorithm, digits, value)) (hash_of algorithm hashes)

-- pip takes a file that has one of several hashes, so one is written: the first that is there
abbrev pub best_hash : List (List ℕ × List ℕ) → Option (List ℕ × ℕ × List ℕ)
best_hash hashes =
    either (hash_with (codes "sha256") 64 hashes)
    (either (hash_with (codes "sha384") 96 hashes) (hash_with (codes "sha512") 128 hashes))

abbrev pub hashes_check : List (List ℕ × List ℕ) → Check
hashes_check hashes =
    option_map_or (λ hash. hash_check hash.1 hash.2) (best_hash hashes) (Err (missing field.Hash))

-- ---- what has hashes

abbrev pub is_same_text : (a b : Option (List ℕ)) → Bool
is_same_text (Some a) (Some b) = bytes_eq a b
is_same_text (Some a) None = false
is_same_text None b = false

-- a subdirectory is written behind a URL
abbrev pub inner_check : SourceValue → Check
inner_check source =
    where_there subdirectory_check (source_subdirectory source)
    >>= (λ _. require field.Subdirectory reason.NoUrl (is_none (source_subdirectory source)
    || not (is_relative (source_location source).url (source_location source).path)))

-- what is written of a wheel or an sdist ends in its file name, which is of the entry's project; so
-- is an archive that ends as a wheel does
abbrev pub own_project_check : List ℕ → SourceValue → (last project : Option (List ℕ)) → Check
own_project_check name source last project =
    if is_some (source_file source) || is_wheel_end last then project_check name project
    else Ok tt

abbrev pub hashed_check : List ℕ → SourceValue → (last project : Option (List ℕ)) → Check
hashed_check name source last project =
    place_check (source_location source).url (source_location source).path last
    >>= (λ _. inner_check source)
    >>= (λ _. hashes_check (source_hashes source))
    >>= (λ _. require field.FileName reason.OtherName (is_none (source_file source)
    || is_same_text last (source_file_name source)))
    >>= (λ _. own_project_check name source last project)

-- ---- what has none

abbrev pub vcs_check : VcsValue → Check
vcs_check vcs =
    kind_check vcs.kind
    >>= (λ _. there field.Url checkout_url_check vcs.location.url)
    >>= (λ _. commit_check vcs.kind vcs.commit_id)
    >>= (λ _. where_there subdirectory_check vcs.subdirectory)

-- the last part of a directory that names something, with its subdirectory
abbrev pub directory_end : DirectoryValue → List ℕ
directory_end directory =
    option_map_or (last_step (last_step [] directory.path)) directory.subdirectory
    (last_step [] directory.path)

-- a subdirectory stands behind a `/`; a second one beside it, at the root, is a share of Windows
abbrev pub joins_once : (path : List ℕ) → (sub : Option (List ℕ)) → Bool
joins_once path sub = is_none sub || not (ends_with nat_eq path (codes "/"))

-- pip may take a directory for a file, unless it is editable
abbrev pub directory_check : DirectoryValue → Check
directory_check directory =
    directory_path_check directory.path
    >>= (λ _. where_there subdirectory_check directory.subdirectory)
    >>= (λ _. require field.Path reason.DoubleSlash
    (joins_once directory.path directory.subdirectory))
    >>= (λ _. require field.Path reason.LikeFile
    (directory.editable || not (ends_as_file (directory_end directory))))

-- ---- each source

-- the project that the file name of a wheel or an sdist says, and of an archive that is a wheel
abbrev pub project_of : SourceValue → Option (List ℕ)
project_of (OfSdist sdist) = option_and_then sdist_project (last_of (OfSdist sdist))
project_of source = option_and_then wheel_project (last_of source)

abbrev pub source_check : List ℕ → SourceValue → (last project : Option (List ℕ)) → Check
source_check name (OfVcs vcs) last project = vcs_check vcs
source_check name (OfDirectory directory) last project = directory_check directory
source_check name source last project = hashed_check name source last project

abbrev pub parts_check : ListedValue → Check
parts_check s =
    name_check s.entry.name
    >>= (λ _. source_check s.entry.name s.source (last_of s.source) (project_of s.source))

abbrev pub requirement_check : ListedValue → Result ⊤ ExportError
requirement_check s = at_number s.number (parts_check s)

-- ---- the lines

abbrev pub header : List ℕ
header = codes "# plan by pylock"

-- a path that nobody takes for a name or an option
abbrev pub path_text : List ℕ → List ℕ
path_text path = if starts is_slash path then path else codes "./" ++ path

abbrev pub fragment : Option (List ℕ) → List ℕ
fragment subdirectory =
    option_map_or (λ path. codes "#subdirectory=" ++ path) subdirectory []

abbrev pub hash_option : List ℕ × ℕ × List ℕ → List ℕ
hash_option hash = codes " --hash=" ++ hash.0 ++ codes ":" ++ hash.2

abbrev pub hashes_option : List (List ℕ × List ℕ) → List ℕ
hashes_option hashes = option_map_or hash_option (best_hash hashes) []

-- the URL, else the path as a URL
abbrev pub location_url : (url path : Option (List ℕ)) → List ℕ
location_url (Some url) path = url
location_url None path = codes "file://" ++ unwrap_or path []

-- a name, behind which a URL stands
abbrev pub named : List ℕ → List ℕ
named name = name ++ codes " @ "

-- a path, or else the name and the URL
abbrev pub location_text : (name : List ℕ) → (url path subdirectory : Option (List ℕ)) → List ℕ
location_text name url path subdirectory =
    if is_relative url path then codes "./" ++ unwrap_or path []
    else named name ++ location_url url path ++ fragment subdirectory

abbrev pub vcs_line : List ℕ → VcsValue → List ℕ
vcs_line name vcs =
    named name ++ (vcs.kind ++ codes "+") ++ (unwrap_or vcs.location.url [] ++ codes "@")
    ++ vcs.commit_id ++ fragment vcs.subdirectory

abbrev pub directory_line : DirectoryValue → List ℕ
directory_line directory =
    (if directory.editable then codes "-e " else []) ++ path_text directory.path
    ++ option_map_or (λ path. codes "/" ++ path) directory.subdirectory []

abbrev pub hashed_line : List ℕ → SourceValue → List ℕ
hashed_line name source =
    location_text name (source_location source).url (source_location source).path
    (source_subdirectory source)
    ++ hashes_option (source_hashes source)

abbrev pub source_line : List ℕ → SourceValue → List ℕ
source_line name (OfVcs vcs) = vcs_line name vcs
source_line name (OfDirectory directory) = directory_line directory
source_line name source = hashed_line name source

abbrev pub requirement_line : ListedValue → List ℕ
requirement_line s = source_line s.entry.name s.source

-- ---- the two files

-- which sources a file has
abbrev pub is_in : PlanPart → SourceValue → Bool
is_in part.Hashed source = not (is_unhashed source)
is_in part.Local source = is_unhashed source

-- the sources of a file, in the plan's order
abbrev pub part_of : PlanPart → List ListedValue → List ListedValue
part_of part sources = filter (λ s. is_in part s.source) sources

-- the first refusal of these sources
abbrev pub requirements_check : List ListedValue → Result ⊤ ExportError
requirements_check [] = Ok tt
requirements_check (s ∷ rest) = requirement_check s >>= (λ _. requirements_check rest)

-- a line for each source of the file
abbrev pub requirements_lines : PlanPart → List ListedValue → Result (List (List ℕ)) ExportError
requirements_lines part sources =
    requirements_check (part_of part sources)
    >>= (λ _. Ok (header ∷ map requirement_line (part_of part sources)))

-- a list is dealt out into two, each in its order
pub data Deals {A : Type 0} : (all one other : List A) → Type 0 where
  deals_none : Deals [] [] []
  deals_one : (x : A) (all one other : List A) → Deals all one other
      → Deals (x ∷ all) (x ∷ one) other
  deals_other : (x : A) (all one other : List A) → Deals all one other
      → Deals (x ∷ all) one (x ∷ other)

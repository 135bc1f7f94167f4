-- Whether an installed project is what a pick of the plan says.
use Rattle.std.specs.Prelude.{ℕ, Bool, true, false, not, ◌&&◌, codes, List, [], ◌∷◌, Option, Some}
use Rattle.std.specs.Prelude.{None, if◌then◌else◌}
use Rattle.std.specs.Option.{option_map_or}
use Rattle.std.specs.Result.{result_ok}
use Rattle.std.specs.Str.{bytes_eq}
use Rattle.pyver_core.specs.Parsed.{parsed_version}
use Rattle.pyver_core.specs.Version.Order.{is_same}
use Rattle.pyver_core.specs.Version.Parts.{Parts}
use Rattle.pylock_readers.specs.Entry.{EntryValue}
use Rattle.pylock_core.specs.Session.Picks.{SourceValue, is_unhashed, source_commit_id}
use Rattle.pylock_core.specs.Session.Picks.{source_hashes, source_in, source_word}
use Rattle.pylock_core.specs.declared.answer.PickSource.{PickSource}
use Rattle.pylock_installed.specs.Project.{ProjectValue}
use Rattle.pylock_installed.specs.declared.origin.Origin.{Origin}
use Rattle.pylock_installed.specs.declared.origin.Origin.TheVariants as origin

-- ---- the version

-- equal as versions (PEP 440) where both texts are versions, else as texts
abbrev pub is_same_by : Option Parts → Option Parts → Bool → Bool
is_same_by (Some v) (Some w) as_texts = is_same v w
is_same_by v w as_texts = as_texts

unfoldable pub is_same_version : List ℕ → List ℕ → Bool
is_same_version text other =
    is_same_by (result_ok (parsed_version text)) (result_ok (parsed_version other))
    (bytes_eq text other)

-- an entry without a version, as that of a directory may be, has any
abbrev pub has_version : Option (List ℕ) → List ℕ → Bool
has_version wanted version =
    option_map_or (λ wanted. is_same_version wanted version) wanted true

-- ---- the source

-- the value of an algorithm among pairs of both
abbrev pub hash_by : List ℕ → List (List ℕ × List ℕ) → Option (List ℕ)
hash_by algorithm [] = None
hash_by algorithm (hash ∷ hashes) =
    if bytes_eq algorithm hash.0 then Some hash.1 else hash_by algorithm hashes

-- texts that are equal where both are known
abbrev pub may_equal : Option (List ℕ) → Option (List ℕ) → Bool
may_equal (Some one) (Some other) = bytes_eq one other
may_equal one other = true

-- the source is a file: a wheel, an sdist or an archive
abbrev pub is_file : SourceValue → Bool
is_file source = not (is_unhashed source)

-- the kind of a directory, by whether it is installed in place
abbrev pub directory_kind : Bool → List ℕ
directory_kind editable = if editable then codes "editable" else codes "directory"

-- the source is a checkout of the commit
abbrev pub is_at : SourceValue → List ℕ → Bool
is_at source commit_id = option_map_or (bytes_eq commit_id) (source_commit_id source) false

-- A project from there may be of the source. What comes from an index is a file, whichever: the
-- list doesn't tell its hash. Nor does it count from which URL a checkout or a file is, or in which
-- folder a directory lies, since one source has many places.
unfoldable pub is_from : SourceValue → Origin → Bool
is_from source origin.Untold = true
is_from source origin.Index = is_file source
is_from source (origin.Checkout commit_id) = is_at source commit_id
is_from source (origin.Directory editable) =
    bytes_eq (source_word source) (directory_kind editable)
is_from source (origin.File sha256) =
    is_file source && may_equal sha256 (hash_by (codes "sha256") (source_hashes source))

-- ---- both

-- the project, which has the entry's name, is what is picked of the entry
abbrev pub is_picked : EntryValue → PickSource → ProjectValue → Bool
is_picked entry picked project =
    has_version entry.version project.version
    && option_map_or (λ source. is_from source project.origin) (source_in entry picked) false

-- The fields of a pick, as keys with codes.
use Rattle.std.specs.Prelude.{ℕ, ◌++◌, List, [], ◌∷◌, codes, Option, if◌then◌else◌}
use Rattle.std.specs.Option.{option_map_or}
use Rattle.toml.specs.Data.{Members, no_members, string, table}
use Rattle.pytoml.specs.Members.{with_member}
use Rattle.pylock_readers.specs.Entry.{EntryValue}
use Rattle.pylock_core.specs.Session.Picks.{SourceValue, is_unhashed, source_commit_id}
use Rattle.pylock_core.specs.Session.Picks.{source_file_name, source_hashes, source_location}
use Rattle.pylock_core.specs.Session.Picks.{source_subdirectory, source_vcs_kind, source_word}
use Rattle.pytoml_code.specs.Code.{code}
use Rattle.pylock_diff.specs.Codes.{Rows}

-- the members with a text, where it is there
abbrev pub put : List ℕ → Option (List ℕ) → Members → Members
put key text members = option_map_or (λ t. with_member key (string t) members) text members

abbrev pub put_all : List (List ℕ × Option (List ℕ)) → Members
put_all [] = no_members
put_all (row ∷ rows) = put row.0 row.1 (put_all rows)

abbrev pub hash_members : List (List ℕ × List ℕ) → Members → Members
hash_members [] members = members
hash_members (hash ∷ hashes) members =
    hash_members hashes (with_member hash.0 (string hash.1) members)

abbrev pub put_hashes : List (List ℕ × List ℕ) → Members → Members
put_hashes hashes = with_member (codes "hashes") (table (hash_members hashes no_members))

-- the keys of a source that are texts; the name is that of its file
abbrev pub text_rows : SourceValue → List (List ℕ × Option (List ℕ))
text_rows source =
    (codes "type", source_vcs_kind source)
    ∷ (codes "commit-id", source_commit_id source)
    ∷ (codes "name", source_file_name source)
    ∷ (codes "url", (source_location source).url)
    ∷ (codes "path", (source_location source).path)
    ∷ (codes "subdirectory", source_subdirectory source)
    ∷ []

abbrev pub text_members : SourceValue → Members
text_members source = put_all (text_rows source)

-- a source with all its fields
abbrev pub source_members : SourceValue → Members
source_members source =
    if is_unhashed source then text_members source
    else put_hashes (source_hashes source) (text_members source)

abbrev pub source_row : SourceValue → Rows
source_row source = (source_word source, code (table (source_members source))) ∷ []

abbrev pub version_row : Option (List ℕ) → Rows
version_row version = option_map_or (λ text. (codes "version", code (string text)) ∷ []) version []

-- the version as it is written, and the source under its kind
abbrev pub pick_fields : EntryValue → SourceValue → Rows
pick_fields entry source = version_row entry.version ++ source_row source

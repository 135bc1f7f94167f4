-- What one source of an entry gives to each kind of finding.
use Rattle.std.specs.Prelude.{ℕ, Bool, false, ◌==◌, ◌&&◌, ◌||◌, ◌++◌, not, codes, List, [], ◌∷◌}
use Rattle.std.specs.Prelude.{filter, length, map, Option, Some, None, is_some, option_and_then}
use Rattle.std.specs.Int.{is_in_range}
use Rattle.std.specs.List.{flat_map, join_by, list_all}
use Rattle.std.specs.Option.{option_map_or}
use Rattle.std.specs.Str.{bytes_eq}
use Rattle.pylock_readers.specs.Entry.{FileValue, file_name}
use Rattle.pylock_core.specs.Session.Picks.{SourceValue, is_unhashed, source_commit_id, source_file}
use Rattle.pylock_core.specs.Session.Picks.{source_file_name, source_hashes, source_location}
use Rattle.pylock_core.specs.Session.Picks.{source_subdirectory, source_vcs, source_vcs_kind}
use Rattle.pylock_core.specs.declared.answer.PickSource.{PickSource}
use Rattle.pylock_places.specs.Query.{has_secret}
use Rattle.pylock_places.specs.Shown.{file_label, source_label, source_text}
use Rattle.pylock_places.specs.Url.{has_credentials, is_https, is_safe_remote}
use Rattle.pylock_shown.specs.Hidden.{hidden}
use Rattle.pylock_shown.specs.Visible.{has_control}
use Rattle.pylock_audit.specs.Finding.{told_where}
use Rattle.pylock_audit.specs.Hash.{Hash, is_bad, is_odd, is_weak}
use Rattle.pylock_audit.specs.Keys.{source_path}
use Rattle.pylock_audit.specs.Unsafe.{is_outside_path, is_unsafe_name, is_unsafe_path}
use Rattle.pylock_audit.specs.declared.finding.FindingKind.{FindingKind}
use Rattle.pylock_audit.specs.declared.finding.FindingKind.TheVariants as kind

-- ---- hashes

-- a file that has none
abbrev pub without_hash : SourceValue → List Hash → List (List ℕ)
without_hash s [] = told_where (not (is_unhashed s)) (source_text s)
without_hash s hashes = []

-- the algorithms as they are shown, joined by `,`
abbrev pub algorithms : List Hash → List ℕ
algorithms hashes = join_by (λ hash. hidden hash.0) (codes ",") hashes

abbrev pub weakly_hashed : SourceValue → List Hash → List (List ℕ)
weakly_hashed s [] = []
weakly_hashed s (hash ∷ hashes) =
    told_where (is_weak (hash ∷ hashes))
    (source_text s ++ codes " " ++ algorithms (hash ∷ hashes))

-- whether a kind of finding tells of a hash
abbrev pub is_told : FindingKind → Hash → Bool
is_told kind.OddHash hash = is_odd hash
is_told kind.BadHash hash = is_bad hash
is_told kind hash = false

-- the hashes that a kind tells of, each by its algorithm
abbrev pub tested_hashes : FindingKind → SourceValue → List Hash → List (List ℕ)
tested_hashes kind s hashes =
    map (λ hash. source_text s ++ codes " " ++ hidden hash.0) (filter (is_told kind) hashes)

-- ---- texts

-- a text that is there, where a test finds it, shown so
abbrev pub text_where : (List ℕ → Bool) → (List ℕ → List ℕ) → Option (List ℕ) → List (List ℕ)
text_where test shown None = []
text_where test shown (Some text) = told_where (test text) (shown text)

-- what a file is called, where it has a file name that a test finds
abbrev pub name_where : (List ℕ → Bool) → FileValue → List (List ℕ)
name_where test file = text_where test (λ name. file_label file) (file_name file)

-- a URL that anybody on the way may change
abbrev pub is_open_url : SourceValue → List ℕ → Bool
is_open_url s url = not (is_https url || (is_some (source_vcs s) && is_safe_remote url))

abbrev pub is_hash_digit : ℕ → Bool
is_hash_digit b = is_in_range 48 57 b || is_in_range 97 102 b || is_in_range 65 70 b

abbrev pub is_commit_hash : List ℕ → Bool
is_commit_hash text = (length text == 40 || length text == 64) && list_all is_hash_digit text

abbrev pub has_commit_hashes : List ℕ → Bool
has_commit_hashes kind = bytes_eq kind (codes "git") || bytes_eq kind (codes "hg")

-- a commit that isn't one for all time
abbrev pub is_moving : SourceValue → List ℕ → Bool
is_moving s commit =
    option_map_or has_commit_hashes (source_vcs_kind s) false && not (is_commit_hash commit)

-- the text of a source that a kind of finding looks at
abbrev pub text_of : FindingKind → SourceValue → Option (List ℕ)
text_of kind.UnsafeFileName s = source_file_name s
text_of kind.OutsidePath s = (source_location s).path
text_of kind.UnsafeSubdirectory s = source_subdirectory s
text_of kind.NotHttps s = (source_location s).url
text_of kind.Credentials s = (source_location s).url
text_of kind.SecretInUrl s = (source_location s).url
text_of kind.MovingCommit s = source_commit_id s
text_of kind s = None

-- whether it tells of that text
abbrev pub is_text_told : FindingKind → SourceValue → List ℕ → Bool
is_text_told kind.UnsafeFileName s name = is_unsafe_name name
is_text_told kind.OutsidePath s path = is_outside_path path
is_text_told kind.UnsafeSubdirectory s path = is_unsafe_path path
is_text_told kind.NotHttps s url = is_open_url s url
is_text_told kind.Credentials s url = has_credentials url
is_text_told kind.SecretInUrl s url = has_secret url
is_text_told kind.MovingCommit s commit = is_moving s commit
is_text_told kind s text = false

-- how it does: by what a file is called, by the path of the key of a secret, or by the text
abbrev pub told_text : FindingKind → PickSource × SourceValue → List ℕ → List ℕ
told_text kind.UnsafeFileName s name = source_label s.1
told_text kind.SecretInUrl s url = source_path s.0 ++ codes "url"
told_text kind s text = hidden text

-- ---- control characters

-- a text of a key, with its path, where it has one
abbrev pub controlled : PickSource → List ℕ → Option (List ℕ) → List (List ℕ)
controlled name key text =
    text_where has_control (λ text. source_path name ++ key ++ codes " " ++ hidden text) text

-- a hash is `ALGORITHM=VALUE`
abbrev pub hash_text : Hash → List ℕ
hash_text hash = hash.0 ++ codes "=" ++ hash.1

-- it is shown without what opens a URL in either of its texts, or in what they make together
abbrev pub hash_shown : Hash → List ℕ
hash_shown hash = hidden (hash_text (hidden hash.0, hidden hash.1))

abbrev pub controlled_hash : PickSource → Hash → List (List ℕ)
controlled_hash name hash =
    told_where (has_control (hash_text hash))
    (source_path name ++ codes "hashes" ++ codes " " ++ hash_shown hash)

abbrev pub controlled_hashes : PickSource → List Hash → List (List ℕ)
controlled_hashes name hashes = flat_map (controlled_hash name) hashes

-- the key `name` of a wheel or an sdist
abbrev pub name_key : SourceValue → Option (List ℕ)
name_key source = option_and_then (λ (file : FileValue). file.name) (source_file source)

abbrev pub controlled_texts : PickSource → SourceValue → List (List ℕ)
controlled_texts name source =
    controlled name (codes "type") (source_vcs_kind source)
    ++ controlled name (codes "commit-id") (source_commit_id source)
    ++ controlled name (codes "name") (name_key source)
    ++ controlled name (codes "url") (source_location source).url
    ++ controlled name (codes "path") (source_location source).path
    ++ controlled_hashes name (source_hashes source)
    ++ controlled name (codes "subdirectory") (source_subdirectory source)

-- ---- the rows

-- what a source gives to a kind of finding that looks at each source by itself
abbrev pub details : FindingKind → PickSource × SourceValue → List (List ℕ)
details kind.NoHash s = without_hash s.1 (source_hashes s.1)
details kind.WeakHash s = weakly_hashed s.1 (source_hashes s.1)
details kind.OddHash s = tested_hashes kind.OddHash s.1 (source_hashes s.1)
details kind.BadHash s = tested_hashes kind.BadHash s.1 (source_hashes s.1)
details kind.ControlCharacter s = controlled_texts s.0 s.1
details kind s = text_where (is_text_told kind s.1) (told_text kind s) (text_of kind s.1)

abbrev pub over_sources : FindingKind → List (PickSource × SourceValue) → List (List ℕ)
over_sources kind sources = flat_map (details kind) sources

-- The lines that each form may have, by their parts. Each part is of a class of characters, so no
-- line has a space but those that stand here, and none has an end of a line within it.
use Rattle.std.specs.Prelude.{◌≡◌, ◌⊎◌, ℕ, ◌==◌, ◌++◌, true, false, codes, List, [], length}
use Rattle.std.specs.Prelude.{Option, Some, None, unwrap_or, ⊤}
use Rattle.std.specs.Char.{is_ascii_alphanumeric}
use Rattle.std.specs.List.{list_all}
use Rattle.std.specs.Option.{option_map_or}
use Rattle.pytext.specs.Bytes.{starts}
use Rattle.pylock_readers.specs.Entry.FileName.{is_slash}
use Rattle.pylock_exports.specs.Class.{allows}
use Rattle.pylock_exports.specs.FileNames.{ends_as_file, last_part, last_step}
use Rattle.pylock_exports.specs.Lists.{is_control_file}
use Rattle.pylock_exports.specs.Parts.{has_double_slash, has_hex_commits, has_late_parent}
use Rattle.pylock_exports.specs.Parts.{has_parent, has_path, has_query, is_host, is_kind}
use Rattle.pylock_exports.specs.Requirements.{header, joins_once, named, path_text}
use Rattle.pylock_exports.specs.declared.class.Class.{Class}
use Rattle.pylock_exports.specs.declared.class.Class.TheVariants as class
use Rattle.pylock_command.specs.declared.form.PlanFormat.{PlanFormat}
use Rattle.pylock_command.specs.declared.form.PlanFormat.TheVariants as format
use Rattle.pylock_command.specs.declared.form.FileFormat.TheVariants.{Sha256sum, Aria2, Urls}

-- ---- names

-- each character is of the class
abbrev pub IsOf : Class → List ℕ → Type 0
IsOf class text = list_all (allows class) text ≡ true

abbrev pub IsName : List ℕ → Type 0
IsName name = IsOf class.Name name × (starts is_ascii_alphanumeric name ≡ true)

abbrev pub IsFileName : List ℕ → Type 0
IsFileName name = IsOf class.FileName name × (starts is_ascii_alphanumeric name ≡ true)

-- ---- URLs

abbrev pub IsHost : List ℕ → Type 0
IsHost host = IsOf class.Host host × (is_host host ≡ true)

abbrev pub IsWebScheme : List ℕ → Type 0
IsWebScheme scheme = (scheme ≡ codes "https") ⊎ (scheme ≡ codes "http")

-- a URL of the web, its characters of this class
pub record IsWebUrl (class : Class) (url : List ℕ) : Type 0 where
  pub scheme : List ℕ
  pub host : List ℕ
  pub path : List ℕ
  pub whole : url ≡ scheme ++ codes "://" ++ host ++ codes "/" ++ path
  pub is_scheme : IsWebScheme scheme
  pub is_host : IsHost host
  pub characters : IsOf class url

-- a file of this machine
pub record IsFileUrl (url : List ℕ) : Type 0 where
  pub path : List ℕ
  pub whole : url ≡ codes "file:///" ++ path
  pub begins : starts is_ascii_alphanumeric path ≡ true
  pub characters : IsOf class.PipUrl url

-- the URL ends in a file name, decoded once, before its query
abbrev pub EndsInFile : List ℕ → Type 0
EndsInFile url = IsFileName (unwrap_or (last_part (Some url) None) [])

-- a URL that a list has
abbrev pub IsFetchedUrl : List ℕ → Type 0
IsFetchedUrl url = IsWebUrl class.Url url × EndsInFile url

-- a URL of a checkout: no `?`, and a path that isn't empty
abbrev pub IsCheckoutUrl : List ℕ → Type 0
IsCheckoutUrl url =
    IsWebUrl class.PipUrl url × (has_query url ≡ false) × (has_path url ≡ true)

-- ---- paths

pub record IsPlainPath (path : List ℕ) : Type 0 where
  pub characters : IsOf class.Path path
  pub something : (length path == 0) ≡ false
  pub single : has_double_slash path ≡ false

abbrev pub IsPath : List ℕ → Type 0
IsPath path = IsPlainPath path × (has_parent path ≡ false)

-- it may begin with parts `..`
abbrev pub IsDirectoryPath : List ℕ → Type 0
IsDirectoryPath path = IsPlainPath path × (has_late_parent path ≡ false)

abbrev pub IsSubdirectory : List ℕ → Type 0
IsSubdirectory path = IsPath path × (starts is_slash path ≡ false)

-- a path of a file: it ends in a file name
abbrev pub IsFilePath : List ℕ → Type 0
IsFilePath path = IsPath path × IsFileName (unwrap_or (last_part None (Some path)) [])

-- ---- hashes and revisions

-- so many hex digits
abbrev pub IsHash : ℕ → List ℕ → Type 0
IsHash digits value = IsOf class.LowerHex value × ((length value == digits) ≡ true)

abbrev pub IsKind : List ℕ → Type 0
IsKind kind = is_kind kind ≡ true

-- of git and Mercurial 40 hex digits, else letters and digits, one or more
abbrev pub IsCommit : (kind commit : List ℕ) → Type 0
IsCommit kind commit =
    ((has_hex_commits kind ≡ true) × IsOf class.Hex commit × ((length commit == 40) ≡ true))
    ⊎ ((has_hex_commits kind ≡ false) × IsOf class.Alphanumeric commit
    × ((length commit == 0) ≡ false))

-- ---- parts of a requirement

abbrev pub IsFragment : List ℕ → Type 0
IsFragment text =
    (text ≡ [])
    ⊎ ((path : List ℕ) × IsSubdirectory path × (text ≡ codes "#subdirectory=" ++ path))

-- exactly one hash
pub data IsHashOption : List ℕ → Type 0 where
  option_sha256 : (value : List ℕ) → IsHash 64 value
      → IsHashOption (codes " --hash=sha256:" ++ value)
  option_sha384 : (value : List ℕ) → IsHash 96 value
      → IsHashOption (codes " --hash=sha384:" ++ value)
  option_sha512 : (value : List ℕ) → IsHash 128 value
      → IsHashOption (codes " --hash=sha512:" ++ value)

-- a path as a URL; since no `//` stands in it, it names no other machine
abbrev pub IsPathUrl : List ℕ → Type 0
IsPathUrl text =
    (path : List ℕ) × IsFilePath path × (starts is_slash path ≡ true)
    × (text ≡ codes "file://" ++ path)

-- a URL, or a path as one
abbrev pub IsPlace : List ℕ → Type 0
IsPlace text =
    (IsWebUrl class.PipUrl text × EndsInFile text) ⊎ (IsFileUrl text × EndsInFile text)
    ⊎ IsPathUrl text

abbrev pub IsSub : Option (List ℕ) → Type 0
IsSub None = ⊤
IsSub (Some path) = IsSubdirectory path

-- a directory, which pip takes for no file unless it is editable
pub record IsDirectory (editable : List ℕ) (path : List ℕ) (sub : Option (List ℕ)) : Type 0 where
  pub is_path : IsDirectoryPath path
  pub is_sub : IsSub sub
  pub is_joined : joins_once path sub ≡ true
  pub is_taken : (editable ≡ codes "-e ")
      ⊎ ((editable ≡ []) × (ends_as_file (option_map_or (last_step (last_step [] path)) sub
      (last_step [] path)) ≡ false))

abbrev pub folder : Option (List ℕ) → List ℕ
folder sub = option_map_or (λ path. codes "/" ++ path) sub []

-- what `sha256sum` names a file by
abbrev pub IsSumName : List ℕ → Type 0
IsSumName text = IsFileName text ⊎ ((path : List ℕ) × IsPath path × (text ≡ path_text path))

-- ---- the lines

pub data IsLine : PlanFormat → List ℕ → Type 0 where
  sum_line : (hash file : List ℕ) → IsHash 64 hash → IsSumName file
      → IsLine (format.Files Sha256sum) (hash ++ codes "  " ++ file)
  aria2_url : (url : List ℕ) → IsFetchedUrl url → IsLine (format.Files Aria2) url
  aria2_file : (file : List ℕ) → IsFileName file → is_control_file file ≡ false
      → IsLine (format.Files Aria2) (codes " out=" ++ file)
  aria2_hash : (hash : List ℕ) → IsHash 64 hash
      → IsLine (format.Files Aria2) (codes " checksum=sha-256=" ++ hash)
  aria2_torrent : IsLine (format.Files Aria2) (codes " follow-torrent=false")
  aria2_metalink : IsLine (format.Files Aria2) (codes " follow-metalink=false")
  aria2_renaming : IsLine (format.Files Aria2) (codes " auto-file-renaming=false")
  url_line : (url : List ℕ) → IsFetchedUrl url → IsLine (format.Files Urls) url
  header_line : IsLine format.Requirements header
  -- a file or an archive
  place_line : (name place fragment hash : List ℕ)
      → IsName name → IsPlace place → IsFragment fragment → IsHashOption hash
      → IsLine format.Requirements ((named name ++ place ++ fragment) ++ hash)
  path_line : (path hash : List ℕ) → IsFilePath path → IsHashOption hash
      → IsLine format.Requirements ((codes "./" ++ path) ++ hash)
  local_header_line : IsLine format.RequirementsLocal header
  checkout_line : (name kind url commit fragment : List ℕ)
      → IsName name → IsKind kind → IsCheckoutUrl url → IsCommit kind commit
      → IsFragment fragment
      → IsLine format.RequirementsLocal
      (named name ++ (kind ++ codes "+") ++ (url ++ codes "@") ++ commit ++ fragment)
  directory_line : (editable path : List ℕ) → (sub : Option (List ℕ))
      → IsDirectory editable path sub
      → IsLine format.RequirementsLocal (editable ++ path_text path ++ folder sub)

-- What each part of a line has to be. A text is the list of the bytes of its UTF-8.
use Rattle.std.specs.Prelude.{[], ℕ, Bool, false, ◌==◌, ◌||◌, ◌&&◌, not, codes, nat_eq, List, ◌∷◌}
use Rattle.std.specs.Prelude.{length, drop, Option, Some, None, is_some, option_and_then, unwrap_or}
use Rattle.std.specs.Prelude.{Result, Ok, Err, ⊤, if◌then◌else◌}
use Rattle.std.specs.Char.{is_ascii_alphanumeric}
use Rattle.std.specs.List.{find, list_all, list_any, prefix_len, slice_split, starts_with}
use Rattle.std.specs.Option.{option_map_or}
use Rattle.std.specs.Str.{bytes_eq, chars}
use Rattle.pytext.specs.Bytes.{starts}
use Rattle.pytext.specs.Digits.{is_number}
use Rattle.pytext.specs.Options.{either}
use Rattle.pytext.specs.Results.{◌>>=◌}
use Rattle.pywheel_core.specs.Texts.{cut_at}
use Rattle.pylock_readers.specs.Entry.FileName.{is_slash}
use Rattle.pylock_exports.specs.Class.{allows}
use Rattle.pylock_exports.specs.declared.class.Class.{Class}
use Rattle.pylock_exports.specs.declared.class.Class.TheVariants as class
use Rattle.pylock_exports.specs.declared.refusal.ExportError.{ExportError}
use Rattle.pylock_exports.specs.declared.refusal.ExportError.TheVariants.{Refused}
use Rattle.pylock_exports.specs.declared.refusal.Field.{Field}
use Rattle.pylock_exports.specs.declared.refusal.Field.TheVariants as field
use Rattle.pylock_exports.specs.declared.refusal.FieldFault.{FieldFault}
use Rattle.pylock_exports.specs.declared.refusal.Reason.{Reason}
use Rattle.pylock_exports.specs.declared.refusal.Reason.TheVariants as reason

-- what says whether a part is taken
abbrev pub Check : Type 0
Check = Result ⊤ FieldFault

-- the test holds, or this is wrong with the field
abbrev pub require : Field → Reason → Bool → Check
require field reason test =
    if test then Ok tt else Err (record { field = field; reason = reason })

-- the first character that isn't of the class; where each byte is of it, nobody asks
abbrev pub other_character : Class → List ℕ → Reason
other_character class text =
    option_map_or reason.Character (find (λ c. not (allows class c)) (chars text)) reason.Form

-- each byte is of the class
abbrev pub allowed : Class → Field → List ℕ → Check
allowed class field text =
    require field (other_character class text) (list_all (allows class) text)

abbrev pub missing : Field → FieldFault
missing field = record { field = field; reason = reason.Missing }

-- a part that has to be there is so
abbrev pub there : Field → (List ℕ → Check) → Option (List ℕ) → Check
there field check None = Err (missing field)
there field check (Some text) = check text

-- a part is so where it is there
abbrev pub where_there : (List ℕ → Check) → Option (List ℕ) → Check
where_there check None = Ok tt
where_there check (Some text) = check text

-- what is found of a source, under the number of its entry
abbrev pub at_number : ℕ → Check → Result ⊤ ExportError
at_number number (Ok u) = Ok u
at_number number (Err fault) = Err (Refused (record { number = number; fault = fault }))

-- ---- names

abbrev pub name_check : List ℕ → Check
name_check name =
    allowed class.Name field.Name name
    >>= (λ _. require field.Name reason.Form (starts is_ascii_alphanumeric name))

-- the field is a file name, or ends in one
abbrev pub file_name_check : Field → List ℕ → Check
file_name_check field name =
    allowed class.FileName field name
    >>= (λ _. require field reason.Form (starts is_ascii_alphanumeric name))

-- what the field ends in is a file name
abbrev pub end_check : Field → Option (List ℕ) → Check
end_check field last = file_name_check field (unwrap_or last [])

-- ---- URLs

-- what stands behind this front, where the text has it
abbrev pub behind : List ℕ → List ℕ → Option (List ℕ)
behind front text =
    if starts_with nat_eq text front then Some (drop (length front) text) else None

-- what stands behind the scheme of a URL of the web
abbrev pub behind_web : List ℕ → Option (List ℕ)
behind_web url = either (behind (codes "https://") url) (behind (codes "http://") url)

-- the host, and what stands behind it and its `/` (RFC 3986, section 3)
abbrev pub host_cut : List ℕ → Option (List ℕ × List ℕ)
host_cut url = option_and_then (cut_at 47) (behind_web url)

-- a name; where a `:` stands behind it, digits do too
abbrev pub is_host : List ℕ → Bool
is_host host =
    option_map_or (λ cut. not (length cut.0 == 0) && is_number cut.1)
    (cut_at 58 host) (not (length host == 0))

-- a `/` stands behind the host
abbrev pub host_check : Option (List ℕ × List ℕ) → Check
host_check None = Err (record { field = field.Host; reason = reason.Form })
host_check (Some cut) =
    allowed class.Host field.Host cut.0
    >>= (λ _. require field.Host reason.Form (is_host cut.0))

abbrev pub web_url_check : Class → List ℕ → Check
web_url_check class url =
    require field.Url reason.Form (is_some (behind_web url))
    >>= (λ _. allowed class field.Url url)
    >>= (λ _. host_check (host_cut url))

-- a file of this machine. Behind `file:///` a second `/` names another machine on Windows
abbrev pub is_file_url : List ℕ → Bool
is_file_url url = option_map_or (starts is_ascii_alphanumeric) (behind (codes "file:///") url) false

-- of the web, or a file of this machine
abbrev pub any_url_check : List ℕ → Check
any_url_check url =
    if is_file_url url then allowed class.PipUrl field.Url url
    else web_url_check class.PipUrl url

abbrev pub has_query : List ℕ → Bool
has_query url = list_any (λ c. c == 63) url

-- something stands behind the host and its `/`
abbrev pub has_path : List ℕ → Bool
has_path url = option_map_or (λ cut. not (length cut.1 == 0)) (host_cut url) false

-- where a checkout is made from. pip takes what stands behind `?` for a query, and so loses the
-- commit behind it; without a path it takes the commit for a host
abbrev pub checkout_url_check : List ℕ → Check
checkout_url_check url =
    web_url_check class.PipUrl url
    >>= (λ _. require field.Url (reason.Character 63) (not (has_query url)))
    >>= (λ _. require field.Url reason.NoPath (has_path url))

-- ---- paths

abbrev pub parts_of : List ℕ → List (List ℕ)
parts_of path = slice_split is_slash path

abbrev pub is_parent : List ℕ → Bool
is_parent part = bytes_eq part (codes "..")

-- one of its parts is `..`
abbrev pub has_parent : List ℕ → Bool
has_parent path = list_any is_parent (parts_of path)

-- the parts behind those `..` that stand first
abbrev pub behind_parents : List (List ℕ) → List (List ℕ)
behind_parents parts = drop (prefix_len is_parent parts) parts

-- a part `..` stands behind another one
abbrev pub has_late_parent : List ℕ → Bool
has_late_parent path = list_any is_parent (behind_parents (parts_of path))

abbrev pub has_double_slash : List ℕ → Bool
has_double_slash [] = false
has_double_slash (c ∷ rest) = (is_slash c && starts is_slash rest) || has_double_slash rest

-- what every path has to be
abbrev pub plain_check : Field → List ℕ → Check
plain_check field path =
    allowed class.Path field path
    >>= (λ _. require field reason.Empty (not (length path == 0)))
    >>= (λ _. require field reason.DoubleSlash (not (has_double_slash path)))

-- a path of a file
abbrev pub path_check : List ℕ → Check
path_check path =
    plain_check field.Path path
    >>= (λ _. require field.Path reason.Parent (not (has_parent path)))

-- a path of a directory, which may lie outside of the lock's folder
abbrev pub directory_path_check : List ℕ → Check
directory_path_check path =
    plain_check field.Path path
    >>= (λ _. require field.Path reason.Parent (not (has_late_parent path)))

-- within another folder
abbrev pub subdirectory_check : List ℕ → Check
subdirectory_check path =
    plain_check field.Subdirectory path
    >>= (λ _. require field.Subdirectory reason.Parent (not (has_parent path)))
    >>= (λ _. require field.Subdirectory reason.Absolute (not (starts is_slash path)))

-- ---- hashes and revisions

-- so many hex digits, those that are letters in lower case
abbrev pub hash_check : ℕ → List ℕ → Check
hash_check digits value =
    allowed class.LowerHex field.Hash value
    >>= (λ _. require field.Hash reason.Form (length value == digits))

abbrev pub has_hex_commits : List ℕ → Bool
has_hex_commits kind = bytes_eq kind (codes "git") || bytes_eq kind (codes "hg")

abbrev pub is_kind : List ℕ → Bool
is_kind kind =
    has_hex_commits kind || bytes_eq kind (codes "svn") || bytes_eq kind (codes "bzr")

abbrev pub kind_check : List ℕ → Check
kind_check kind = require field.Type reason.Form (is_kind kind)

-- 40 hex digits of git and Mercurial, in either letter case; else letters and digits, at least one
abbrev pub commit_check : List ℕ → List ℕ → Check
commit_check kind commit =
    if has_hex_commits kind
    then (allowed class.Hex field.Commit commit
    >>= (λ _. require field.Commit reason.Form (length commit == 40)))
    else (allowed class.Alphanumeric field.Commit commit
    >>= (λ _. require field.Commit reason.Form (not (length commit == 0))))

-- The forms that list files: what each file has to have, and the lines of a list.
use Rattle.std.specs.Prelude.{[], ◌≡◌, ℕ, Bool, false, not, ◌||◌, codes, ◌++◌, List, ◌∷◌, map}
use Rattle.std.specs.Prelude.{Option, Some, None, is_none, unwrap_or, nat_eq, option_map, Result}
use Rattle.std.specs.Prelude.{Ok, if◌then◌else◌}
use Rattle.std.specs.List.{ends_with, find, flat_map}
use Rattle.std.specs.Option.{option_map_or}
use Rattle.std.specs.Str.{bytes_eq}
use Rattle.pytext.specs.Results.{◌>>=◌}
use Rattle.pylock_core.specs.Session.Picks.{SourceValue}
use Rattle.pylock_exports.specs.FileNames.{last_part}
use Rattle.pylock_exports.specs.Listed.{ListedValue, file_name_of_source, path_alone, sha256_of}
use Rattle.pylock_exports.specs.Listed.{url_of}
use Rattle.pylock_exports.specs.Parts.{Check, at_number, end_check, file_name_check, hash_check}
use Rattle.pylock_exports.specs.Parts.{path_check, require, there, web_url_check}
use Rattle.pylock_exports.specs.Requirements.{path_text}
use Rattle.pylock_exports.specs.declared.class.Class.TheVariants as class
use Rattle.pylock_command.specs.declared.form.FileFormat.{FileFormat}
use Rattle.pylock_command.specs.declared.form.FileFormat.TheVariants.{Sha256sum, Aria2, Urls}
use Rattle.pylock_exports.specs.declared.refusal.Field.TheVariants as field
use Rattle.pylock_exports.specs.declared.refusal.ExportError.{ExportError}
use Rattle.pylock_exports.specs.declared.refusal.Reason.TheVariants as reason

-- ---- what a list names a file by

-- its file name; of `sha256sum` its path, where it has no URL; of `urls` its URL
abbrev pub name_in : FileFormat → SourceValue → Option (List ℕ)
name_in Sha256sum source =
    option_map_or (λ path. Some path) (path_alone source) (file_name_of_source source)
name_in Aria2 source = file_name_of_source source
name_in Urls source = url_of source

abbrev pub key_of : FileFormat → SourceValue → List ℕ
key_of format source = unwrap_or (name_in format source) []

-- what is one for each of these: the sha256 of a file, and of `urls` again the URL
abbrev pub value_in : FileFormat → SourceValue → Option (List ℕ)
value_in Sha256sum source = sha256_of source
value_in Aria2 source = sha256_of source
value_in Urls source = url_of source

abbrev pub value_of : FileFormat → SourceValue → List ℕ
value_of format source = unwrap_or (value_in format source) []

-- ---- what a list can hold

-- what a list has beside the name is absent: what it is one for, or a URL that it is fetched from
abbrev pub lacks : FileFormat → SourceValue → Bool
lacks Sha256sum source = is_none (sha256_of source)
lacks Aria2 source = is_none (sha256_of source) || is_none (url_of source)
lacks Urls source = false

-- a list leaves out what has no name, or lacks one of these
abbrev pub is_left : FileFormat → SourceValue → Bool
is_left format source = is_none (name_in format source) || lacks format source

-- ---- what a file has to have

-- a URL that is fetched, which ends in a file name
abbrev pub fetched_check : (url last : Option (List ℕ)) → Check
fetched_check url last =
    there field.Url (web_url_check class.Url) url
    >>= (λ _. end_check field.UrlEnd last)

-- the path of a file without a URL, else its file name
abbrev pub sum_name_check : (path : Option (List ℕ)) → (name : List ℕ) → Check
sum_name_check (Some path) name = path_check path
sum_name_check None name = file_name_check field.FileName name

-- a file beside which `aria2c` keeps what it knows of a download
abbrev pub is_control_file : List ℕ → Bool
is_control_file name =
    ends_with nat_eq name (codes ".aria2") || ends_with nat_eq name (codes ".aria2__temp")

abbrev pub aria2_name_check : List ℕ → Check
aria2_name_check name =
    file_name_check field.FileName name
    >>= (λ _. require field.FileName reason.Control (not (is_control_file name)))

abbrev pub own_sum_check : SourceValue → Check
own_sum_check source = there field.Hash (hash_check 64) (sha256_of source)

-- what is named so, and whose URL ends so
abbrev pub listed_check : FileFormat → SourceValue → (name : List ℕ) → (last : Option (List ℕ))
    → Check
listed_check Sha256sum source name last =
    sum_name_check (path_alone source) name >>= (λ _. own_sum_check source)
listed_check Aria2 source name last =
    aria2_name_check name >>= (λ _. own_sum_check source)
    >>= (λ _. fetched_check (url_of source) last)
listed_check Urls source name last = fetched_check (url_of source) last

abbrev pub list_check : FileFormat → SourceValue → Check
list_check format source =
    listed_check format source (key_of format source) (last_part (url_of source) None)

-- ---- each file once

-- the value of the first that is named so
abbrev pub value_named : FileFormat → List ℕ → List ListedValue → Option (List ℕ)
value_named format key kept =
    option_map (λ s. value_of format s.source)
    (find (λ s. bytes_eq key (key_of format s.source)) kept)

-- a source beside those so far, among which one that is named so has this value
abbrev pub beside : FileFormat → List ListedValue → ListedValue → Option (List ℕ)
    → Result (List ListedValue) ExportError
beside format kept s None = Ok (kept ++ s ∷ [])
beside format kept s (Some value) =
    at_number s.number
    (require field.Hash reason.OtherValue (bytes_eq value (value_of format s.source)))
    >>= (λ _. Ok kept)

-- those so far with one more source: what lacks something is left out, and what is named as an
-- earlier one is has to have its value
abbrev pub with_source : FileFormat → List ListedValue → ListedValue
    → Result (List ListedValue) ExportError
with_source format kept s =
    if is_left format s.source then Ok kept
    else (at_number s.number (list_check format s.source)
    >>= (λ _. beside format kept s (value_named format (key_of format s.source) kept)))

-- those so far with more
abbrev pub with_sources : FileFormat → List ListedValue → List ListedValue
    → Result (List ListedValue) ExportError
with_sources format kept [] = Ok kept
with_sources format kept (s ∷ rest) =
    with_source format kept s >>= (λ more. with_sources format more rest)

-- ---- the lines

-- a path as it is written, else the file name
abbrev pub sum_name : (path : Option (List ℕ)) → (name : List ℕ) → List ℕ
sum_name (Some path) name = path_text name
sum_name None name = name

-- the lines of a source that is named so
abbrev pub lines_named : FileFormat → SourceValue → (name : List ℕ) → List (List ℕ)
lines_named Sha256sum source name =
    (value_of Sha256sum source ++ codes "  " ++ sum_name (path_alone source) name) ∷ []
lines_named Aria2 source name =
    unwrap_or (url_of source) []
    ∷ (codes " out=" ++ name)
    ∷ (codes " checksum=sha-256=" ++ value_of Aria2 source)
    ∷ codes " follow-torrent=false"
    ∷ codes " follow-metalink=false"
    ∷ codes " auto-file-renaming=false" ∷ []
lines_named Urls source name = name ∷ []

abbrev pub source_lines : FileFormat → SourceValue → List (List ℕ)
source_lines format source = lines_named format source (key_of format source)

-- the lines of a list
abbrev pub list_lines : FileFormat → List ListedValue → Result (List (List ℕ)) ExportError
list_lines format sources =
    with_sources format [] sources
    >>= (λ kept. Ok (flat_map (λ s. source_lines format s.source) kept))

-- ---- what a list keeps

-- what the list names its files by
abbrev pub keys : FileFormat → List ListedValue → List (List ℕ)
keys format kept = map (λ s. key_of format s.source) kept

-- what lacks nothing is kept, or one that is named as it is and has its value
abbrev pub IsKept : FileFormat → List ListedValue → ListedValue → Type 0
IsKept format kept s =
    is_left format s.source ≡ false
    → value_named format (key_of format s.source) kept ≡ Some (value_of format s.source)

-- What is picked, and where it lies.
use Rattle.std.specs.Prelude.{ℕ, Bool, ◌==◌, ◌&&◌, ◌||◌, not, List, [], ◌∷◌, length}
use Rattle.std.specs.Prelude.{Option, Some, None, if◌then◌else◌, option_and_then}
use Rattle.std.specs.Char.{is_ascii_alphanumeric}
use Rattle.std.specs.Int.{is_in_range}
use Rattle.std.specs.List.{list_all}
use Rattle.std.specs.Option.{option_map_or}
use Rattle.std.specs.Str.{bytes_eq}
use Rattle.serde_json.specs.Data.{Data}
use Rattle.pylock_readers.specs.Entry.{EntryValue}
use Rattle.pylock_core.specs.Session.Picks.{SourceValue, source_in, source_location}
use Rattle.pylock_core.specs.Session.State.{State, entry_at}
use Rattle.pylock_core.specs.declared.answer.Pick.{Pick}
use Rattle.pylock_shown.specs.Hidden.{hidden}

-- what is shown of the source of a pick; its number is that of an entry that has the source, so it
-- is there
abbrev pub of_pick : (ℕ → EntryValue → SourceValue → Data) → State → Pick → List Data
of_pick show state pick =
    option_map_or
    (λ entry. option_map_or (λ source. show pick.id entry source ∷ [])
    (source_in entry pick.source) [])
    (entry_at pick.id state.entries) []

-- a letter or digit, or one of `!#$%&'()*+,-./:;=?@[]_~`, as a URI has them (RFC 3986, section 2)
abbrev pub is_uri_character : ℕ → Bool
is_uri_character b =
    is_ascii_alphanumeric b || b == 33 || is_in_range 35 47 b || is_in_range 58 59 b || b == 61
    || is_in_range 63 64 b || b == 91 || b == 93 || b == 95 || b == 126

-- a URL that `hidden` leaves as it is, so that it names no user and no value of a query, and that
-- has the characters of a URI alone, at least one
abbrev pub bare_url : List ℕ → Option (List ℕ)
bare_url url =
    if not (length url == 0) && bytes_eq (hidden url) url && list_all is_uri_character url
    then Some url else None

-- the URL of a source, where it has a bare one
abbrev pub source_url : SourceValue → Option (List ℕ)
source_url source = option_and_then bare_url (source_location source).url

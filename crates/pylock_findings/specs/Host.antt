-- The host that a URL names, whoever reads it, and the URLs of a lock that name another than those
-- that are asked for. RFC 3986 (section 3.2) ends what names the machine at `/`, `?` and `#`, and
-- the URL standard of the WHATWG at `\` too; some readers look for the user behind a `?` or a `#`,
-- and some leave white space out or decode escapes.
use Rattle.std.specs.Prelude.{ℕ, Bool, false, ◌==◌, ◌&&◌, ◌||◌, not, List, map, length}
use Rattle.std.specs.Prelude.{Option, Some, None, if◌then◌else◌, nat_lt, option_and_then}
use Rattle.std.specs.Char.{is_ascii_alphabetic, is_ascii_alphanumeric, to_ascii_lowercase}
use Rattle.std.specs.List.{flat_map, list_all, list_any}
use Rattle.std.specs.Option.{option_map_or}
use Rattle.std.specs.Str.{bytes_eq}
use Rattle.pytext.specs.Bytes.{starts}
use Rattle.pywheel_core.specs.Texts.{cut_at}
use Rattle.pylock_readers.specs.Entry.{EntryValue}
use Rattle.pylock_core.specs.Session.Picks.{SourceValue, source_location, sources}
use Rattle.pylock_places.specs.Url.{behind_slashes}
use Rattle.pylock_shown.specs.Hidden.{hidden}
use Rattle.pylock_audit.specs.Finding.{LockFindingValue}
use Rattle.pylock_audit.specs.Source.{text_where}
use Rattle.pylock_audit.specs.declared.finding.FindingKind.TheVariants as kind
use Rattle.pylock_findings.specs.Lines.{lines_from}

-- ---- the host

-- a letter, and then letters, digits, `+`, `-` and `.` (RFC 3986, section 3.1)
abbrev pub is_scheme_byte : ℕ → Bool
is_scheme_byte b = is_ascii_alphanumeric b || b == 43 || b == 45 || b == 46

abbrev pub is_scheme : List ℕ → Bool
is_scheme text = starts is_ascii_alphabetic text && list_all is_scheme_byte text

-- what stands behind the scheme and its `://`
abbrev pub behind_scheme : List ℕ → Option (List ℕ)
behind_scheme url =
    option_and_then (λ cut. if is_scheme cut.0 then behind_slashes cut.1 else None)
    (cut_at 58 url)

-- what stands before the first such byte: all, where the text has none
abbrev pub before_byte : ℕ → List ℕ → List ℕ
before_byte byte text = option_map_or (λ cut. cut.0) (cut_at byte text) text

-- printable ASCII other than a space, `%`, `@` and `\`
abbrev pub is_plain : ℕ → Bool
is_plain b = nat_lt 32 b && nat_lt b 127 && not (b == 37 || b == 64 || b == 92)

-- the host with its port: what stands before the first `?` or `#`; none where something else than
-- plain bytes stands before the first `/`
abbrev pub plain_host : List ℕ → Option (List ℕ)
plain_host front =
    if list_all is_plain front then Some (before_byte 35 (before_byte 63 front)) else None

abbrev pub host_of : List ℕ → Option (List ℕ)
host_of url = option_and_then (λ rest. plain_host (before_byte 47 rest)) (behind_scheme url)

-- ---- the hosts that are asked for

-- the host is this one, ASCII letter case ignored; no host is empty
abbrev pub is_host : List ℕ → List ℕ → Bool
is_host host asked =
    nat_lt 0 (length host) && bytes_eq (map to_ascii_lowercase host) (map to_ascii_lowercase asked)

-- the host of the URL is one of these
abbrev pub has_host_among : List (List ℕ) → List ℕ → Bool
has_host_among hosts url = option_map_or (λ host. list_any (is_host host) hosts) (host_of url) false

-- the URL of a source as it is shown, where its host is none of these
abbrev pub other_url : List (List ℕ) → SourceValue → List (List ℕ)
other_url hosts source =
    text_where (λ url. not (has_host_among hosts url)) hidden (source_location source).url

abbrev pub other_urls : List (List ℕ) → EntryValue → List (List ℕ)
other_urls hosts entry = flat_map (λ named. other_url hosts named.1) (sources entry)

-- a line for each of them
abbrev pub host_lines : List (List ℕ) → List EntryValue → List LockFindingValue
host_lines hosts entries = lines_from kind.OtherHost (other_urls hosts) 1 entries

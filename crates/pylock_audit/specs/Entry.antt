-- What an entry of a lock gives to each kind of finding.
use Rattle.std.specs.Prelude.{ℕ, Bool, ◌==◌, ◌-◌, ◌&&◌, ◌||◌, ◌++◌, not, codes, true, false, drop}
use Rattle.std.specs.Prelude.{List, [], ◌∷◌, length, map, Option, Some, None, is_none}
use Rattle.std.specs.Prelude.{if◌then◌else◌, option_and_then, option_map}
use Rattle.std.specs.List.{flat_map, list_any}
use Rattle.std.specs.Option.{option_map_or}
use Rattle.std.specs.Ordering.{is_eq}
use Rattle.std.specs.Result.{is_err, result_ok}
use Rattle.std.specs.Str.{bytes_eq}
use Rattle.toml.specs.Data.{Members}
use Rattle.pytext.specs.Options.{either}
use Rattle.pyver_core.specs.Name.{is_name, normal_name}
use Rattle.pyver_core.specs.Parsed.{parsed_version}
use Rattle.pyver_core.specs.Version.Order.{version_cmp}
use Rattle.pyver_core.specs.Version.Parts.{Parts}
use Rattle.pymark_core.specs.Marker.Asked.{extra_asked, group_asked, comparison_reads_extra}
use Rattle.pymark_core.specs.Marker.Comparison.{ComparisonValue}
use Rattle.pymark_core.specs.Marker.Grammar.{comparisons}
use Rattle.pymark_core.specs.Marker.Reading.{MarkerValue}
use Rattle.pywheel_core.specs.Sdist.{SdistValue, sdist_of}
use Rattle.pywheel_core.specs.Wheel.Value.{WheelValue}
use Rattle.pylock_readers.specs.Entry.{EntryValue, FileValue, file_name, wheel_name, wheel_names}
use Rattle.pylock_readers.specs.Entry.Kinds.{has_conflict, is_any, kinds, kinds_text}
use Rattle.pylock_readers.specs.Lock.{HeadValue}
use Rattle.pylock_core.specs.Session.Picks.{SourceValue, sources}
use Rattle.pylock_core.specs.declared.answer.PickSource.{PickSource}
use Rattle.pylock_places.specs.FileName.{shown_file_name}
use Rattle.pylock_places.specs.Shown.{file_label}
use Rattle.pylock_places.specs.Url.{has_credentials, is_https}
use Rattle.pylock_shown.specs.Hidden.{hidden}
use Rattle.pylock_shown.specs.Visible.{has_control}
use Rattle.pylock_audit.specs.Finding.{FindingValue, findings_each, finding_where, shown_where}
use Rattle.pylock_audit.specs.Finding.{told_where}
use Rattle.pylock_audit.specs.EntryKeys.{entry_keys_told}
use Rattle.pylock_audit.specs.Keys.{text_at}
use Rattle.pylock_audit.specs.Readings.{differs}
use Rattle.pylock_audit.specs.Source.{name_where, over_sources, text_where}
use Rattle.pylock_audit.specs.Words.{is_refused}
use Rattle.pylock_audit.specs.declared.finding.FindingKind.{FindingKind}
use Rattle.pylock_audit.specs.declared.finding.FindingKind.TheVariants as kind
use Rattle.pylock_audit.specs.declared.scope.Scope.{Scope}
use Rattle.pylock_audit.specs.declared.scope.Scope.TheVariants as scope

-- ---- names and versions

-- a text isn't its own normal form
abbrev pub is_other_form : List ℕ → Bool
is_other_form name = not (bytes_eq (normal_name name) name)

-- the name as written, where it is so
abbrev pub other_form : Members → List (List ℕ)
other_form members = text_where is_other_form hidden (text_at (codes "name") members)

abbrev pub refused_version : EntryValue → List (List ℕ)
refused_version entry =
    text_where (λ version. is_err (parsed_version version)) hidden entry.version

-- ---- what the table tells

-- the findings of its keys and its name; and the key `index` as it is shown, where it isn't of
-- HTTPS, and where it has credentials
pub record TableValue : Type 0 where
  pub told : List FindingValue
  pub not_https : List (List ℕ)
  pub credentials : List (List ℕ)

abbrev pub told_by : Members → List FindingValue
told_by members =
    findings_each kind.UnknownKey (entry_keys_told kind.UnknownKey members)
    ++ findings_each kind.WrongType (entry_keys_told kind.WrongType members)
    ++ findings_each kind.NameForm (other_form members)

abbrev pub of_table : Members → TableValue
of_table members = record {
  told = told_by members;
  not_https = text_where (λ url. not (is_https url)) hidden (text_at (codes "index") members);
  credentials = text_where has_credentials hidden (text_at (codes "index") members);
}

-- ---- markers

-- the text of a marker, one of whose comparisons is so
abbrev pub compares : (ComparisonValue → Bool) → MarkerValue → List (List ℕ)
compares test marker = shown_where (list_any test (comparisons marker.tree)) marker.text

-- a name is asked for that is none of these
abbrev pub is_undeclared : List (List ℕ) → Option (List ℕ) → Bool
is_undeclared names asked =
    option_map_or (λ name. not (list_any (bytes_eq (normal_name name)) names)) asked false

abbrev pub asks_undeclared : HeadValue → ComparisonValue → Bool
asks_undeclared head c =
    is_undeclared head.extras (extra_asked c)
    || is_undeclared (head.groups ++ head.default_groups) (group_asked c)

-- ---- file names

-- what a wheel's file name says, with the wheel
abbrev pub ReadWheel : Type 0
ReadWheel = FileValue × Option WheelValue

abbrev pub read_wheels : EntryValue → List ReadWheel
read_wheels entry = map (λ file. (file, wheel_name file)) entry.wheels

-- a wheel that is never chosen, since its name can't be read
abbrev pub unnamed_wheel : ReadWheel → List FindingValue
unnamed_wheel wheel = finding_where (is_none wheel.1) kind.NoWheelName (shown_file_name wheel.0)

-- the version that the files of an entry should have: the entry's, or where it has none that of
-- its first wheel with a readable name
abbrev pub first_version : List (Option WheelValue) → Option Parts
first_version [] = None
first_version (name ∷ names) =
    either (option_map (λ wheel. wheel.version) name) (first_version names)

abbrev pub wanted_version : EntryValue → Option Parts
wanted_version entry =
    option_map_or (λ version. result_ok (parsed_version version)) entry.version
    (first_version (wheel_names entry))

abbrev pub is_other_version : Option Parts → Parts → Bool
is_other_version wanted version =
    option_map_or (λ wanted. not (is_eq (version_cmp version wanted))) wanted false

-- what the file name of the sdist says
abbrev pub sdist_name : EntryValue → Option SdistValue
sdist_name entry =
    option_and_then (λ name. result_ok (sdist_of name)) (option_and_then file_name entry.sdist)

-- an sdist whose name can't be read
abbrev pub unnamed_sdist : Option SdistValue → EntryValue → List FindingValue
unnamed_sdist sdist entry =
    option_map_or
    (λ file. finding_where (is_none sdist) kind.NoSdistName (shown_file_name file)) entry.sdist []

-- a file name that can't be read is an sdist's by its ending
abbrev pub ends : List ℕ → List ℕ → Bool
ends ending name = bytes_eq (drop (length name - length ending) name) ending

abbrev pub ends_as_sdist : List ℕ → Bool
ends_as_sdist name = ends (codes ".tar.gz") name || ends (codes ".zip") name

-- the text is a name whose normal form is this one
abbrev pub is_name_of : List ℕ → List ℕ → Bool
is_name_of name text = is_name text && bytes_eq (normal_name text) name

-- what stands before each `-`, the text so far before all
abbrev pub fronts_behind : List ℕ → List ℕ → List (List ℕ)
fronts_behind front [] = []
fronts_behind front (b ∷ rest) =
    if b == 45 then front ∷ fronts_behind (front ++ b ∷ []) rest
    else fronts_behind (front ++ b ∷ []) rest

abbrev pub has_front_of : List ℕ → List ℕ → Bool
has_front_of name file = list_any (is_name_of name) (fronts_behind [] file)

-- the file name of an sdist is another package's: by what it says, or where it can't be read, by
-- what stands before each `-`
abbrev pub is_other_sdist : List ℕ → Option SdistValue → List ℕ → Bool
is_other_sdist name (Some sdist) file = not (bytes_eq sdist.name name)
is_other_sdist name None file = ends_as_sdist file && not (has_front_of name file)

-- whether a kind tells of a wheel or an sdist of an entry with this name, by what its file name
-- says: of another package, or of another version than is wanted
abbrev pub is_other_wheel : FindingKind → Option Parts → List ℕ → WheelValue → Bool
is_other_wheel kind.OtherName wanted name wheel = not (bytes_eq (normal_name wheel.name) name)
is_other_wheel kind wanted name wheel = is_other_version wanted wheel.version

abbrev pub is_other_file : FindingKind → Option Parts → List ℕ → Option SdistValue → List ℕ → Bool
is_other_file kind.OtherName wanted name sdist file = is_other_sdist name sdist file
is_other_file kind wanted name sdist file =
    option_map_or (λ sdist. is_other_version wanted sdist.version) sdist false

-- what such a file is called
abbrev pub other_wheel : FindingKind → Option Parts → List ℕ → ReadWheel → List (List ℕ)
other_wheel kind wanted name wheel =
    option_map_or
    (λ parts. told_where (is_other_wheel kind wanted name parts) (file_label wheel.0)) wheel.1 []

abbrev pub other_sdist : FindingKind → Option Parts → List ℕ → Option SdistValue → FileValue
    → List (List ℕ)
other_sdist kind wanted name sdist file =
    name_where (is_other_file kind wanted name sdist) file

abbrev pub other_files : FindingKind → Option Parts → Option SdistValue → EntryValue
    → List (List ℕ)
other_files kind wanted sdist entry =
    flat_map (other_wheel kind wanted entry.name) (read_wheels entry)
    ++ option_map_or (other_sdist kind wanted entry.name sdist) entry.sdist []

-- a file name beside others
abbrev pub with_name : Option (List ℕ) → List (List ℕ) → List (List ℕ)
with_name None names = names
with_name (Some name) names = names ++ name ∷ []

abbrev pub with_names : List FileValue → List (List ℕ) → List (List ℕ)
with_names [] names = names
with_names (file ∷ files) names = with_names files (with_name (file_name file) names)

-- the file names of these files that an earlier one has
abbrev pub same_names : List (List ℕ) → List FileValue → List (List ℕ)
same_names earlier [] = []
same_names earlier (file ∷ files) =
    name_where (λ name. list_any (bytes_eq name) earlier) file
    ++ same_names (with_name (file_name file) earlier) files

-- of the wheels, and then of the sdist
abbrev pub same_file_names : EntryValue → List (List ℕ)
same_file_names entry =
    same_names [] entry.wheels
    ++ option_map_or (name_where (λ name. list_any (bytes_eq name) (with_names entry.wheels [])))
    entry.sdist []

-- ---- all of an entry

abbrev pub marker_findings : HeadValue → MarkerValue → List FindingValue
marker_findings head marker =
    findings_each kind.MarkerExtra (compares comparison_reads_extra marker)
    ++ findings_each kind.ReadingsDiffer (compares differs marker)
    ++ findings_each kind.UndeclaredName (compares (asks_undeclared head) marker)

abbrev pub of_marker : HeadValue → EntryValue → List FindingValue
of_marker head entry = option_map_or (marker_findings head) entry.marker []

abbrev pub of_kinds : EntryValue → List FindingValue
of_kinds entry =
    finding_where (not (is_any (kinds entry))) kind.NoSource None
    ++ finding_where (has_conflict entry) kind.SeveralSources (Some (kinds_text entry))

-- those of the file names, where the sdist's says this
abbrev pub of_file_names_by : Option SdistValue → EntryValue → List FindingValue
of_file_names_by sdist entry =
    flat_map unnamed_wheel (read_wheels entry)
    ++ unnamed_sdist sdist entry
    ++ findings_each kind.OtherName
    (other_files kind.OtherName (wanted_version entry) sdist entry)
    ++ findings_each kind.OtherVersion
    (other_files kind.OtherVersion (wanted_version entry) sdist entry)
    ++ findings_each kind.SameFileName (same_file_names entry)

abbrev pub of_file_names : EntryValue → List FindingValue
of_file_names entry = of_file_names_by (sdist_name entry) entry

-- All findings may be asked for, or those alone that a strict reading refuses. What is found
-- besides may be much longer than the lock: a file's name stands in the finding of each of its
-- hashes.
abbrev pub wants : Scope → FindingKind → Bool
wants scope.All kind = true
wants scope.Refused kind = is_refused kind

-- what each of the sources gives to a kind, where that is asked for
abbrev pub over : Scope → FindingKind → List (PickSource × SourceValue) → List FindingValue
over asked kind list =
    if wants asked kind then findings_each kind (over_sources kind list) else []

abbrev pub of_hashes : Scope → List (PickSource × SourceValue) → List FindingValue
of_hashes asked list =
    over asked kind.NoHash list ++ over asked kind.WeakHash list
    ++ over asked kind.OddHash list ++ over asked kind.BadHash list

-- of a kind that looks at the index too, that comes first
abbrev pub of_sources : Scope → List (List ℕ) → List (List ℕ) → List (PickSource × SourceValue)
    → List FindingValue
of_sources asked not_https credentials list =
    over asked kind.UnsafeFileName list ++ over asked kind.OutsidePath list
    ++ over asked kind.UnsafeSubdirectory list
    ++ findings_each kind.NotHttps not_https ++ over asked kind.NotHttps list
    ++ findings_each kind.Credentials credentials ++ over asked kind.Credentials list
    ++ over asked kind.SecretInUrl list ++ over asked kind.MovingCommit list

-- the version where it has a control character, by its path
abbrev pub controlled_version : EntryValue → List (List ℕ)
controlled_version entry =
    text_where has_control (λ version. codes "version " ++ hidden version) entry.version

-- the version first, and then each source
abbrev pub of_controls : Scope → EntryValue → List (PickSource × SourceValue) → List FindingValue
of_controls asked entry list =
    findings_each kind.ControlCharacter (controlled_version entry)
    ++ over asked kind.ControlCharacter list

-- those of an entry that are asked for, with what its table tells
abbrev pub entry_findings : Scope → HeadValue → TableValue → EntryValue → List FindingValue
entry_findings asked head table entry =
    table.told ++ findings_each kind.Version (refused_version entry)
    ++ of_marker head entry ++ of_kinds entry ++ of_hashes asked (sources entry)
    ++ of_file_names entry
    ++ of_sources asked table.not_https table.credentials (sources entry)
    ++ of_controls asked entry (sources entry)

-- What an advisory's JSON says (the OSV schema). Members that aren't named here don't count.
use Rattle.std.specs.Prelude.{ℕ, ◌||◌, Bool, false, not, List, codes, filter, filter_map, take}
use Rattle.std.specs.Prelude.{Option, Some, None, if◌then◌else◌, is_none, is_some, ok_or}
use Rattle.std.specs.Prelude.{option_map, Result, Ok, Err}
use Rattle.std.specs.List.{list_any}
use Rattle.std.specs.Str.{bytes_eq}
use Rattle.serde_json.specs.Data.{Data}
use Rattle.serde_json.specs.Find.{as_object}
use Rattle.pytext.specs.Results.{◌>>=◌}
use Rattle.pyver_core.specs.Name.{normal_name}
use Rattle.pyver_core.specs.Version.Parts.{Parts}
use Rattle.pylock_advisories.specs.Advisory.{AdvisoryValue, AffectedValue, RangeValue}
use Rattle.pylock_advisories.specs.Evaluation.{version_in}
use Rattle.pylock_advisories.specs.Members.{member_in, member_name, objects_in, read_each, text_in}
use Rattle.pylock_advisories.specs.Members.{texts_in}
use Rattle.pylock_advisories.specs.declared.error.AdvisoryError.{AdvisoryError}
use Rattle.pylock_advisories.specs.declared.error.AdvisoryError.TheVariants as error
use Rattle.pylock_advisories.specs.declared.error.Member.TheVariants as member

-- ---- ranges

-- those of the texts that are versions, and those that are none
abbrev pub versions_in : List (List ℕ) → List Parts
versions_in texts = filter_map version_in texts

abbrev pub others_in : List (List ℕ) → List (List ℕ)
others_in texts = filter (λ text. is_none (version_in text)) texts

abbrev pub is_zero : List ℕ → Bool
is_zero text = bytes_eq text (codes "0")

abbrev pub is_star : List ℕ → Bool
is_star text = bytes_eq text (codes "*")

-- the range with the events of these texts; an event that is no version is left out
abbrev pub range_of : (introduced fixed last_affected limits : List (List ℕ)) → RangeValue
range_of introduced fixed last_affected limits = record {
  is_from_start = list_any is_zero introduced;
  introduced = versions_in (filter (λ text. not (is_zero text)) introduced);
  fixed = versions_in fixed;
  last_affected = versions_in last_affected;
  is_unlimited = list_any is_star limits;
  limits = versions_in limits;
}

-- the range's events are versions of the ecosystem: those of `GIT` are commits
abbrev pub has_versions : Option (List ℕ) → Bool
has_versions None = false
has_versions (Some kind) = bytes_eq kind (codes "ECOSYSTEM") || bytes_eq kind (codes "SEMVER")

-- a range, if its events are versions
unfoldable pub range_in : Data → Result (Option RangeValue) AdvisoryError
range_in d = do
  kind ← text_in member.Type d
  events ← objects_in member.Events d
  introduced ← read_each (text_in member.Introduced) events
  fixed ← read_each (text_in member.Fixed) events
  last_affected ← read_each (text_in member.LastAffected) events
  limits ← read_each (text_in member.Limit) events
  Ok (if has_versions kind then Some (range_of introduced fixed last_affected limits) else None)

-- ---- elements of `affected`

-- `PyPI`, which a `:` and more may follow
abbrev pub is_pypi : List ℕ → Bool
is_pypi text = bytes_eq text (codes "PyPI") || bytes_eq (take 5 text) (codes "PyPI:")

-- the name in normal form, if it is of PyPI
abbrev pub pypi_name : Option (List ℕ) → Option (List ℕ) → Option (List ℕ)
pypi_name None name = None
pypi_name (Some ecosystem) None = None
pypi_name (Some ecosystem) (Some name) =
    if is_pypi ecosystem then Some (normal_name name) else None

-- the name of a package of PyPI
unfoldable pub name_in : Data → Result (Option (List ℕ)) AdvisoryError
name_in d = do
  ecosystem ← text_in member.Ecosystem d
  name ← text_in member.Name d
  Ok (pypi_name ecosystem name)

-- the same of `package`, an object where it is there
abbrev pub if_package : Option Data → Result (Option (List ℕ)) AdvisoryError
if_package None = Ok None
if_package (Some d) =
    if is_some (as_object d) then name_in d else Err (error.Member member.Package)

abbrev pub element_of : (texts : List (List ℕ)) → List RangeValue → List ℕ → AffectedValue
element_of texts ranges name = record {
  name = name;
  versions = versions_in texts;
  texts = others_in texts;
  ranges = ranges;
}

-- an element of `affected`, if it is of a package of PyPI
unfoldable pub affected_in : Data → Result (Option AffectedValue) AdvisoryError
affected_in d = do
  name ← if_package (member_in (member_name member.Package) d)
  texts ← texts_in member.Versions d
  values ← objects_in member.Ranges d
  ranges ← read_each range_in values
  Ok (option_map (element_of texts ranges) name)

-- ---- advisories

-- `withdrawn` is there
abbrev pub is_withdrawn : Data → Bool
is_withdrawn d = is_some (member_in (codes "withdrawn") d)

abbrev pub advisory_of : Bool → List ℕ → (aliases : List (List ℕ)) → List AffectedValue
    → AdvisoryValue
advisory_of withdrawn id aliases affected = record {
  id = id;
  aliases = aliases;
  is_withdrawn = withdrawn;
  affected = affected;
}

-- the id, which has to be there
abbrev pub id_in : Data → Result (List ℕ) AdvisoryError
id_in d = text_in member.Id d >>= (λ id. ok_or id (error.Member member.Id))

-- the advisory that an object is
unfoldable pub members_of : Data → Result AdvisoryValue AdvisoryError
members_of d = do
  id ← id_in d
  aliases ← texts_in member.Aliases d
  values ← objects_in member.Affected d
  affected ← read_each affected_in values
  Ok (advisory_of (is_withdrawn d) id aliases affected)

-- the advisory that a value is
abbrev pub advisory_in : Data → Result AdvisoryValue AdvisoryError
advisory_in d = if is_some (as_object d) then members_of d else Err error.Object

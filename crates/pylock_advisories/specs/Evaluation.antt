-- Which versions of a package an advisory affects (the OSV schema, "Evaluation"), in the order of
-- PEP 440.
use Rattle.std.specs.Prelude.{◌&&◌, ◌||◌, ◌==◌, ℕ, Bool, not, List, Option, Some, None, filter}
use Rattle.std.specs.Prelude.{if◌then◌else◌, length, Result, Ok, Err, filter_map}
use Rattle.std.specs.List.{flat_map, fold, list_any}
use Rattle.std.specs.Str.{bytes_eq}
use Rattle.pyver_core.specs.Parsed.{parsed_version}
use Rattle.pyver_core.specs.Version.Order.{is_before, is_same}
use Rattle.pyver_core.specs.Version.Parts.{Parts}
use Rattle.pylock_advisories.specs.Advisory.{AdvisoryValue, AffectedValue, RangeValue}

-- ---- a range

-- v is at or above w
abbrev pub has_reached : (w v : Parts) → Bool
has_reached w v = not (is_before v w)

-- v is below one of the limits, or there is none (BeforeLimits)
abbrev pub is_before_limits : Parts → RangeValue → Bool
is_before_limits v r = r.is_unlimited || (length r.limits == 0 || list_any (is_before v) r.limits)

-- a `fixed` event at f ends, at or below v, what was introduced at e: at one version, `introduced`
-- counts after `fixed`
abbrev pub fixes : (e v f : Parts) → Bool
fixes e v f = is_before e f && has_reached f v

-- a `last_affected` event at l ends, below v, what was introduced at e
abbrev pub is_last : (e v l : Parts) → Bool
is_last e v l = has_reached e l && is_before l v

-- v is at or above the version e, and nothing ends what was introduced there
abbrev pub is_open_from : Parts → RangeValue → Parts → Bool
is_open_from v r e =
    has_reached e v
    && not (list_any (fixes e v) r.fixed || list_any (is_last e v) r.last_affected)

-- nothing ends what was introduced below every version
abbrev pub is_open_from_start : Parts → RangeValue → Bool
is_open_from_start v r =
    r.is_from_start
    && not (list_any (λ f. has_reached f v) r.fixed
    || list_any (λ l. is_before l v) r.last_affected)

-- the range includes v (IncludedInRanges): an event introduced it, and none ended it since
unfoldable pub is_included : Parts → RangeValue → Bool
is_included v r =
    is_before_limits v r
    && (is_open_from_start v r || list_any (is_open_from v r) r.introduced)

-- ---- an element of `affected`

-- the version that a text spells, if it spells one
abbrev pub if_version : {E : Type 0} → Result Parts E → Option Parts
if_version (Ok v) = Some v
if_version (Err e) = None

abbrev pub version_in : List ℕ → Option Parts
version_in text = if_version (parsed_version text)

-- the element lists the version, or one of its ranges includes it
unfoldable pub affects_version : Parts → AffectedValue → Bool
affects_version v a = list_any (is_same v) a.versions || list_any (is_included v) a.ranges

-- the same of a text: one that is no version is affected only where the element has it
abbrev pub affects : List ℕ → Option Parts → AffectedValue → Bool
affects text None a = list_any (bytes_eq text) a.texts
affects text (Some v) a = affects_version v a

-- ---- an advisory

-- the elements that are of the package, whose name is in normal form
abbrev pub elements_of : List ℕ → AdvisoryValue → List AffectedValue
elements_of name a = filter (λ e. bytes_eq name e.name) a.affected

-- the versions at which the ranges of these elements are fixed
abbrev pub fixes_of : List AffectedValue → List Parts
fixes_of elements = flat_map (λ a. flat_map (λ r. r.fixed) a.ranges) elements

-- such a version is above v, and not itself affected
abbrev pub is_way_out : Parts → List AffectedValue → Parts → Bool
is_way_out v elements f = is_before v f && not (list_any (affects_version f) elements)

-- the lesser of two versions, the first of equal ones
abbrev pub lesser : Option Parts → Parts → Option Parts
lesser None w = Some w
lesser (Some v) w = if is_before w v then Some w else Some v

-- the least of versions, the first of equal ones (the law `least_stands_first`)
abbrev pub least : List Parts → Option Parts
least versions = fold lesser None versions

-- the version to go to
abbrev pub way_out : Option Parts → List AffectedValue → Option Parts
way_out None elements = None
way_out (Some v) elements = least (filter (is_way_out v elements) (fixes_of elements))

-- what is told of an advisory where it affects the package with these elements
abbrev pub told : List ℕ → Option Parts → List AffectedValue → AdvisoryValue
    → Option (AdvisoryValue × Option Parts)
told text version elements a =
    if not a.is_withdrawn && list_any (affects text version) elements
    then Some (a, way_out version elements) else None

abbrev pub told_of : List ℕ → List ℕ → AdvisoryValue → Option (AdvisoryValue × Option Parts)
told_of name text a = told text (version_in text) (elements_of name a) a

-- the advisories that affect the package of this name, in normal form, at the version of this text,
-- in order, each with the version to go to
abbrev pub affecting : List ℕ → List ℕ → List AdvisoryValue → List (AdvisoryValue × Option Parts)
affecting name text advisories = filter_map (told_of name text) advisories

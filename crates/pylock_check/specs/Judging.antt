-- Whether what a session plans is what a project asks for.
use Rattle.std.specs.Prelude.{ℕ, ◌++◌, Bool, true, false, codes, List, [], ◌∷◌, Option, Some, None}
use Rattle.std.specs.Prelude.{is_some, length, ◌==◌, if◌then◌else◌}
use Rattle.std.specs.List.{flat_map, list_any}
use Rattle.std.specs.Option.{option_map_or}
use Rattle.std.specs.Result.{result_ok}
use Rattle.std.specs.Str.{bytes_eq}
use Rattle.pytext.specs.Options.{either}
use Rattle.pyver_core.specs.Parsed.{parsed_version}
use Rattle.pyver_core.specs.Set.Admission.{admits_all}
use Rattle.pyver_core.specs.Version.Parts.{Parts}
use Rattle.pymark_core.specs.Environment.{EnvironmentValue, has_extra}
use Rattle.pymark_core.specs.Marker.Reading.{MarkerValue}
use Rattle.pymark_core.specs.Marker.Value.{value_with}
use Rattle.pylock_readers.specs.Entry.{EntryValue}
use Rattle.pylock_core.specs.Session.State.{State, entry_at}
use Rattle.pylock_core.specs.declared.answer.Pick.{Pick}
use Rattle.pylock_check.specs.Groups.{MarkedValue, found_of, is_reached}
use Rattle.pylock_check.specs.Project.{DeclarationValue, ProjectValue, SectionValue}
use Rattle.pylock_check.specs.declared.difference.Difference.{Difference}
use Rattle.pylock_check.specs.declared.difference.DifferenceKind.{DifferenceKind}
use Rattle.pylock_check.specs.declared.difference.DifferenceKind.TheVariants.{Missing, Version}
use Rattle.pylock_check.specs.declared.difference.DifferenceKind.TheVariants.{Unknown}

-- ---- a requirement

-- a finding of a requirement
abbrev pub of_declaration : DifferenceKind → DeclarationValue → Option (List ℕ) → Difference
of_declaration kind declaration detail = record {
  kind = kind;
  place = declaration.place;
  name = Some declaration.name;
  detail = detail;
}

-- its marker's value where `extra` has this text (PEP 508, "Environment Markers"); none where the
-- marker has a fault
abbrev pub marker_holds : (extra : List ℕ) → EnvironmentValue → Option MarkerValue → Option Bool
marker_holds extra environment None = Some true
marker_holds extra environment (Some marker) =
    result_ok (value_with (Some extra) environment marker.tree)

-- the entry, where it has the name
abbrev pub if_named : List ℕ → Option EntryValue → Option EntryValue
if_named name None = None
if_named name (Some entry) = if bytes_eq name entry.name then Some entry else None

-- the first entry of the plan that has the name
abbrev pub planned : List ℕ → State → List Pick → Option EntryValue
planned name state [] = None
planned name state (pick ∷ picks) =
    either (if_named name (entry_at pick.id state.entries)) (planned name state picks)

-- the set doesn't admit the version, or the text is none (PEP 440)
abbrev pub version_difference : DeclarationValue → (text : List ℕ) → Option Parts
    → Option Difference
version_difference declaration text None =
    Some (of_declaration Unknown declaration (Some (codes "version")))
version_difference declaration text (Some version) =
    if admits_all declaration.requirement.set version then None
    else Some (of_declaration Version declaration (Some text))

-- the entry has a version that the set admits
abbrev pub set_difference : DeclarationValue → (version : Option (List ℕ)) → Option Difference
set_difference declaration None =
    Some (of_declaration Unknown declaration (Some (codes "version")))
set_difference declaration (Some text) =
    version_difference declaration text (result_ok (parsed_version text))

-- the plan has the entry; what a URL asks for can't be told, and an empty set asks for nothing
abbrev pub entry_difference : DeclarationValue → Option EntryValue → Option Difference
entry_difference declaration None = Some (of_declaration Missing declaration None)
entry_difference declaration (Some entry) =
    if is_some declaration.requirement.url
    then Some (of_declaration Unknown declaration (Some (codes "url")))
    else if length declaration.requirement.set == 0 then None
    else set_difference declaration entry.version

-- a requirement whose marker is false asks for nothing
abbrev pub if_holds : State → List Pick → DeclarationValue → Option Bool → Option Difference
if_holds state picks declaration None =
    Some (of_declaration Unknown declaration (Some (codes "marker")))
if_holds state picks declaration (Some false) = None
if_holds state picks declaration (Some true) =
    entry_difference declaration (planned declaration.name state picks)

unfoldable pub declaration_difference : State → List Pick → (extra : List ℕ) → DeclarationValue
    → Option Difference
declaration_difference state picks extra declaration =
    if_holds state picks declaration
    (marker_holds extra state.environment declaration.requirement.marker)

abbrev pub declaration_differences : State → List Pick → (extra : List ℕ) → DeclarationValue
    → List Difference
declaration_differences state picks extra declaration =
    option_map_or (λ found. found ∷ []) (declaration_difference state picks extra declaration) []

abbrev pub list_differences : State → List Pick → (extra : List ℕ) → List DeclarationValue
    → List Difference
list_differences state picks extra declarations =
    flat_map (declaration_differences state picks extra) declarations

-- ---- all that is asked for

-- a key of `project` is dynamic
abbrev pub is_dynamic : List ℕ → ProjectValue → Bool
is_dynamic key project = list_any (bytes_eq key) project.dynamic

-- nothing can be told of a key that is dynamic (PEP 621, `dynamic`)
abbrev pub dynamic_difference : List ℕ → Difference
dynamic_difference key = record {
  kind = Unknown;
  place = codes "project.dynamic";
  name = None;
  detail = Some key;
}

abbrev pub dynamic_differences : ProjectValue → List Difference
dynamic_differences project =
    if is_dynamic (codes "dependencies") project
    then dynamic_difference (codes "dependencies") ∷ []
    else []

-- the requirements of an extra that is asked for, which `extra` names in their markers
abbrev pub extra_differences : State → List Pick → SectionValue → List Difference
extra_differences state picks section =
    if has_extra section.name state.environment
    then list_differences state picks section.name section.requirements.declarations
    else []

-- the requirements of a group that is reached
abbrev pub marked_differences : State → List Pick → MarkedValue → List Difference
marked_differences state picks marked =
    if marked.is_so
    then list_differences state picks [] marked.group.requirements.declarations
    else []

abbrev pub reached_differences : State → List Pick → List SectionValue → List Difference
reached_differences state picks groups =
    flat_map (marked_differences state picks) (found_of (is_reached state.environment) groups)

-- of the project's dependencies, then of the extras, then of the groups that are asked for; outside
-- of extras `extra` is the empty text
unfoldable pub differences : State → List Pick → ProjectValue → List Difference
differences state picks project =
    dynamic_differences project
    ++ list_differences state picks [] project.dependencies.declarations
    ++ flat_map (extra_differences state picks) project.extras
    ++ reached_differences state picks project.groups

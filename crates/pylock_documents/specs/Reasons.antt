-- Why an entry has what becomes of it, and why the head has its fault. Each text of the lock is
-- shown as `hidden` shows it, without what opens a URL.
use Rattle.std.specs.Prelude.{ℕ, Bool, true, false, ◌++◌, List, [], ◌∷◌, length, codes, decimal}
use Rattle.std.specs.Prelude.{Option, Some, None, is_some, option_map, option_and_then, slice_get}
use Rattle.std.specs.Prelude.{unwrap_or, Result, Ok, Err, if◌then◌else◌}
use Rattle.std.specs.List.{list_any}
use Rattle.std.specs.Option.{option_map_or}
use Rattle.pyver_core.specs.Set.Normal.{set_text}
use Rattle.pyver_core.specs.declared.set.specifier.Specifier.{Specifier}
use Rattle.pymark_core.specs.Environment.{EnvironmentValue}
use Rattle.pymark_core.specs.Marker.Reading.{MarkerValue}
use Rattle.pymark_core.specs.Marker.Value.{marker_value}
use Rattle.pymark_core.specs.Variables.{variable_name}
use Rattle.pymark_core.specs.declared.fault.EvalFault.{EvalFault}
use Rattle.pymark_core.specs.declared.fault.EvalFault.TheVariants.{Unset}
use Rattle.pywheel_core.specs.Tag.{TagValue, tag_eq, tag_text}
use Rattle.pywheel_core.specs.Wheel.Value.{WheelValue}
use Rattle.pylock_readers.specs.Entry.{EntryValue, FileValue, wheel_names}
use Rattle.pylock_readers.specs.Lock.{HeadValue}
use Rattle.pylock_core.specs.Session.Picks.{source_in}
use Rattle.pylock_core.specs.Session.State.{State}
use Rattle.pylock_core.specs.declared.answer.FaultCode.{FaultCode}
use Rattle.pylock_core.specs.declared.answer.FaultCode.TheVariants as fault
use Rattle.pylock_core.specs.declared.answer.PickSource.{PickSource}
use Rattle.pylock_core.specs.declared.answer.PickSource.TheVariants as source
use Rattle.pylock_core.specs.declared.edit.Policy.{Policy}
use Rattle.pylock_core.specs.declared.fate.Fate.{Fate}
use Rattle.pylock_core.specs.declared.fate.Fate.TheVariants as fate
use Rattle.pylock_readers.specs.Entry.Kinds.{kinds_text}
use Rattle.pylock_core.specs.Words.{policy_word}
use Rattle.pylock_places.specs.FileName.{shown_file_name}
use Rattle.pylock_places.specs.Shown.{source_label}
use Rattle.pylock_shown.specs.Hidden.{hidden}

-- ---- why: of markers and Python checks

-- the variable whose value a marker misses, and a space
abbrev pub missing_variable : Result Bool EvalFault → List ℕ
missing_variable (Err (Unset variable)) = variable_name variable ++ codes " "
missing_variable value = []

-- the text of a marker, after the variable whose value it misses
abbrev pub marker_detail : EnvironmentValue → MarkerValue → List ℕ
marker_detail environment m =
    missing_variable (marker_value environment m.tree) ++ hidden m.text

-- the normal text of the set of a Python check: behind `===` it may have any character
abbrev pub set_detail : List Specifier → List ℕ
set_detail set = hidden (set_text set)

-- the set of a Python check, or the marker; `no-environment` has neither
abbrev pub condition_detail : EnvironmentValue → Option (List Specifier) → Option MarkerValue
    → FaultCode → Option (List ℕ)
condition_detail environment set marker fault.PythonUnknown = option_map set_detail set
condition_detail environment set marker fault.PythonNotMet = option_map set_detail set
condition_detail environment set marker code = option_map (marker_detail environment) marker

-- the first of the markers that isn't false: the one that decides, if one does
abbrev pub is_false : Result Bool EvalFault → Bool
is_false (Ok false) = true
is_false value = false

abbrev pub deciding_marker : EnvironmentValue → List MarkerValue → Option MarkerValue
deciding_marker environment [] = None
deciding_marker environment (m ∷ ms) =
    if is_false (marker_value environment m.tree) then deciding_marker environment ms else Some m

abbrev pub head_detail : HeadValue → EnvironmentValue → FaultCode → Option (List ℕ)
head_detail head environment code =
    condition_detail environment head.requires_python
    (deciding_marker environment head.environments) code

-- ---- why: of sources

abbrev pub sdist_word : EntryValue → List ℕ
sdist_word entry = if is_some entry.sdist then codes " sdist " else codes " no sdist "

-- how many wheels, whether an sdist, and which of them may be taken
abbrev pub files_word : EntryValue → Policy → List ℕ
files_word entry policy =
    codes "wheels " ++ decimal (length entry.wheels) ++ sdist_word entry ++ policy_word policy

-- whether a tag is one of these
unfoldable pub has_tag : List TagValue → TagValue → Bool
has_tag own t = list_any (λ tag. tag_eq tag t) own

-- the first tag of the list that is one of the wheel's
abbrev pub best_tag : List TagValue → List TagValue → Option TagValue
best_tag own [] = None
best_tag own (t ∷ tags) = if has_tag own t then Some t else best_tag own tags

-- a wheel: its file name and its best tag
abbrev pub wheel_detail : List TagValue → FileValue → Option WheelValue → List ℕ
wheel_detail tags file name =
    unwrap_or (shown_file_name file) []
    ++ option_map_or (λ t. codes " " ++ tag_text t)
    (option_and_then (λ w. best_tag w.tags tags) name) []

-- the wheel at this index
abbrev pub wheel_at : List TagValue → EntryValue → ℕ → Option (List ℕ)
wheel_at tags entry index =
    option_map (λ file. wheel_detail tags file
    (option_and_then (λ name. name) (slice_get (wheel_names entry) index)))
    (slice_get entry.wheels index)

-- where a source lies: of a wheel its file name and its best tag, of another what it is called
abbrev pub source_detail : List TagValue → EntryValue → PickSource → Option (List ℕ)
source_detail tags entry (source.Wheel index) = wheel_at tags entry index
source_detail tags entry other = option_map source_label (source_in entry other)

-- ---- what an entry is called

-- its version, as it is shown
abbrev pub shown_version : EntryValue → Option (List ℕ)
shown_version entry = option_map hidden entry.version

-- ---- why: of each fate

-- why an entry has its fate; each has a reason
abbrev pub detail : State → EntryValue → Fate → Option (List ℕ)
detail state entry fate.Skipped = option_map (marker_detail state.environment) entry.marker
detail state entry (fate.Faulty code) =
    condition_detail state.environment entry.requires_python entry.marker code
detail state entry (fate.Ambiguous first) = Some (decimal first)
detail state entry fate.Sources = Some (kinds_text entry)
detail state entry (fate.NoFile policy) = Some (files_word entry policy)
detail state entry (fate.Picked source) = source_detail state.tags entry source

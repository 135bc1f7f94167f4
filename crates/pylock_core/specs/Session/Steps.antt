-- The installation steps of a lock (PEP 751, "Installation"), from the beginning, on a state.
use Rattle.std.specs.Prelude.{ℕ, Bool, true, false, List, [], ◌∷◌, Option, Some, None, option_map}
use Rattle.std.specs.Prelude.{Result, Ok, Err, if◌then◌else◌}
use Rattle.pytext.specs.Options.{either}
use Rattle.pyver_core.specs.Version.Parts.{Parts}
use Rattle.pyver_core.specs.Set.Admission.{admits_all}
use Rattle.pyver_core.specs.declared.set.specifier.Specifier.{Specifier}
use Rattle.pymark_core.specs.Environment.{EnvironmentValue, variable_in}
use Rattle.pymark_core.specs.Marker.Reading.{MarkerValue}
use Rattle.pymark_core.specs.Marker.Value.{marker_value}
use Rattle.pyver_core.specs.Parsed.{parsed_version}
use Rattle.pymark_core.specs.declared.fault.EvalFault.{EvalFault}
use Rattle.pymark_core.specs.declared.fault.EvalFault.TheVariants.{Unset, Extra, Undefined}
use Rattle.pymark_core.specs.declared.fault.EvalFault.TheVariants.{NumberTooLarge, Memory}
use Rattle.pyver_core.specs.declared.version.error.VersionError.{VersionError}
use Rattle.pymark_core.specs.declared.variable.Var.TheVariants.{PythonFullVersion}
use Rattle.pywheel_core.specs.Choice.{best}
use Rattle.pywheel_core.specs.Tag.{TagValue}
use Rattle.pylock_readers.specs.Entry.{EntryValue, wheel_names}
use Rattle.pylock_readers.specs.Entry.Kinds.{has_conflict}
use Rattle.pylock_readers.specs.Lock.{HeadValue}
use Rattle.pylock_core.specs.Session.State.{State, Policies, is_among, policy_of}
use Rattle.pylock_core.specs.declared.answer.Answer.{Answer}
use Rattle.pylock_core.specs.declared.answer.Answer.TheVariants.{Plan, Fault}
use Rattle.pylock_core.specs.declared.answer.FaultCode.{FaultCode}
use Rattle.pylock_core.specs.declared.answer.FaultCode.TheVariants.{PythonUnknown, PythonNotMet}
use Rattle.pylock_core.specs.declared.answer.FaultCode.TheVariants.{MarkerUnset, MarkerExtra}
use Rattle.pylock_core.specs.declared.answer.FaultCode.TheVariants.{MarkerUndefined, MarkerNumber}
use Rattle.pylock_core.specs.declared.answer.FaultCode.TheVariants.{NoEnvironment, Ambiguous}
use Rattle.pylock_core.specs.declared.answer.FaultCode.TheVariants.{Sources, NoFile}
use Rattle.pylock_core.specs.declared.answer.Pick.{Pick}
use Rattle.pylock_core.specs.declared.answer.PickSource.{PickSource}
use Rattle.pylock_core.specs.declared.answer.PickSource.TheVariants as source
use Rattle.pylock_core.specs.declared.answer.Standing.{Standing}
use Rattle.pylock_core.specs.declared.answer.Standing.TheVariants.{Skipped, Faulty, Active}
use Rattle.pylock_core.specs.declared.edit.Policy.{Policy}
use Rattle.pylock_core.specs.declared.edit.Policy.TheVariants as policy

-- the first fault: the number of its entry, 0 for the head, and why
abbrev pub FirstFault : Type 0
FirstFault = ℕ × FaultCode

-- ---- markers and the Python check

-- the code of a marker's fault; no marker's value is want of memory
abbrev pub fault_code : EvalFault → FaultCode
fault_code (Unset variable) = MarkerUnset
fault_code Extra = MarkerExtra
fault_code Undefined = MarkerUndefined
fault_code NumberTooLarge = MarkerNumber
fault_code Memory = MarkerUnset

-- the Python check of a set, where `python_full_version` has this text or is unset
abbrev pub version_check : List Specifier → Result Parts VersionError → Option FaultCode
version_check set (Err error) = Some PythonUnknown
version_check set (Ok version) = if admits_all set version then None else Some PythonNotMet

abbrev pub text_check : List Specifier → Option (List ℕ) → Option FaultCode
text_check set None = Some PythonUnknown
text_check set (Some text) = version_check set (parsed_version text)

-- the Python check of a set that may stand (the key `requires-python`): its fault
abbrev pub python_check : Option (List Specifier) → EnvironmentValue → Option FaultCode
python_check None environment = None
python_check (Some set) environment = text_check set (variable_in PythonFullVersion environment)

-- ---- the head

-- the first of these markers that is true or faulty decides
abbrev pub decided_by : Result Bool EvalFault → Option FaultCode → Option FaultCode
decided_by (Ok true) rest = None
decided_by (Ok false) rest = rest
decided_by (Err fault) rest = Some (fault_code fault)

abbrev pub first_true : List MarkerValue → EnvironmentValue → Option FaultCode
first_true [] environment = Some NoEnvironment
first_true (m ∷ ms) environment =
    decided_by (marker_value environment m.tree) (first_true ms environment)

-- the check of the key `environments`, which may be absent or empty
abbrev pub environments_check : List MarkerValue → EnvironmentValue → Option FaultCode
environments_check [] environment = None
environments_check (m ∷ ms) environment = first_true (m ∷ ms) environment

-- the fault of the head: first that of its Python check
abbrev pub head_fault : HeadValue → EnvironmentValue → Option FaultCode
head_fault head environment =
    either (python_check head.requires_python environment)
    (environments_check head.environments environment)

-- ---- step 5: which entries are to be installed

-- after a fault or none of the Python check, which comes second
abbrev pub by_check : Option FaultCode → Standing
by_check None = Active
by_check (Some code) = Faulty code

abbrev pub by_marker : Result Bool EvalFault → Standing → Standing
by_marker (Ok true) checked = checked
by_marker (Ok false) checked = Skipped
by_marker (Err fault) checked = Faulty (fault_code fault)

abbrev pub marked_standing : Option MarkerValue → EnvironmentValue → Standing → Standing
marked_standing None environment checked = checked
marked_standing (Some m) environment checked = by_marker (marker_value environment m.tree) checked

-- whether an entry is skipped, has a fault of its marker or of its Python check, or is active
abbrev pub standing : EntryValue → EnvironmentValue → Standing
standing entry environment =
    marked_standing entry.marker environment
    (by_check (python_check entry.requires_python environment))

-- the entry put before the slated rest, unless the rest has a fault
abbrev pub put_before : ℕ × EntryValue → Result (List (ℕ × EntryValue)) FirstFault
    → Result (List (ℕ × EntryValue)) FirstFault
put_before e (Ok slated) = Ok (e ∷ slated)
put_before e (Err fault) = Err fault

-- one of three by how an entry stands
abbrev pub by_standing : {A : Type 0} → Standing → A → (FaultCode → A) → A → A
by_standing Skipped skipped faulty active = skipped
by_standing (Faulty code) skipped faulty active = faulty code
by_standing Active skipped faulty active = active

-- step 5, of the entries after those that have these names: the entries to be installed, or the
-- first fault: of the marker or the Python check, a name shared with an earlier one, sources of
-- more than one kind
abbrev pub slate : List (ℕ × EntryValue) → EnvironmentValue → List (List ℕ)
    → Result (List (ℕ × EntryValue)) FirstFault
slate [] environment names = Ok []
slate (e ∷ es) environment names =
    by_standing (standing e.1 environment)
    (slate es environment names)
    (λ code. Err (e.0, code))
    (if is_among names e.1.name
    then Err (e.0, Ambiguous)
    else if has_conflict e.1
    then Err (e.0, Sources)
    else put_before e (slate es environment (e.1.name ∷ names)))

-- ---- step 6: what they are installed from

-- the wheel that is chosen among those of the entry, unless its name is to be installed from source
abbrev pub best_wheel : EntryValue → List TagValue → Policy → Option ℕ
best_wheel entry tags policy.Any = best (wheel_names entry) tags
best_wheel entry tags policy.Wheel = best (wheel_names entry) tags
best_wheel entry tags policy.Source = None

-- the sdist, unless the name is to be installed from wheels
abbrev pub sdist_source : EntryValue → Policy → Option PickSource
sdist_source entry policy.Any = option_map (λ sdist. source.Sdist) entry.sdist
sdist_source entry policy.Wheel = None
sdist_source entry policy.Source = option_map (λ sdist. source.Sdist) entry.sdist

-- the source of an entry whose name has this policy: its vcs, else its directory, else its archive,
-- else the best wheel, else its sdist
abbrev pub source_of : EntryValue → List TagValue → Policy → Option PickSource
source_of entry tags policy =
    either (option_map (λ vcs. source.Vcs) entry.vcs)
    (either (option_map (λ directory. source.Directory) entry.directory)
    (either (option_map (λ archive. source.Archive) entry.archive)
    (either (option_map source.Wheel (best_wheel entry tags policy))
    (sdist_source entry policy))))

-- the pick of the entry of this number put before the picks of the rest; an entry without a source
-- is the first fault
abbrev pub pick_before : ℕ → Option PickSource → Result (List Pick) FirstFault
    → Result (List Pick) FirstFault
pick_before n None rest = Err (n, NoFile)
pick_before n (Some source) (Ok rest) = Ok (record { id = n; source = source } ∷ rest)
pick_before n (Some source) (Err fault) = Err fault

-- step 6: a pick for each slated entry, or the first that has no source
abbrev pub picks : List (ℕ × EntryValue) → List TagValue → Policies → Result (List Pick) FirstFault
picks [] tags policies = Ok []
picks (e ∷ es) tags policies =
    pick_before e.0 (source_of e.1 tags (policy_of policies e.1.name)) (picks es tags policies)

-- ---- the answer

-- the answer that ends the steps
abbrev pub answer_by : Result (List Pick) FirstFault → Answer
answer_by (Ok plan) = Plan plan
answer_by (Err fault) = Fault fault.0 fault.1

-- step 6 after step 5: a fault of step 5, of whichever entry, comes first
abbrev pub picks_after : Result (List (ℕ × EntryValue)) FirstFault → List TagValue → Policies
    → Result (List Pick) FirstFault
picks_after (Ok slated) tags policies = picks slated tags policies
picks_after (Err fault) tags policies = Err fault

-- the entries after the head, whose fault comes first
abbrev pub answer_after : Option FaultCode → Answer → Answer
answer_after (Some code) answer = Fault 0 code
answer_after None answer = answer

-- the answer: the fault of the head, or the first fault of the entries, or the picks of them all
abbrev pub answer : State → Answer
answer state =
    answer_after (head_fault state.head state.environment)
    (answer_by (picks_after (slate state.entries state.environment []) state.tags state.policies))

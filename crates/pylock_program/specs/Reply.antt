-- The reply of a one-shot command: what it prints, and its status.
use Rattle.std.specs.Prelude.{ℕ, Bool, true, false, if◌then◌else◌, List, [], ◌∷◌, codes}
use Rattle.std.specs.Prelude.{Option, Some, None, option_map, Result, Ok, Err}
use Rattle.std.specs.List.{join_by}
use Rattle.std.specs.Result.{result_map_both}
use Rattle.pyver_core.specs.Name.{is_name, normal_name}
use Rattle.pyver_core.specs.Parsed.{parsed_version, parsed_set}
use Rattle.pytext.specs.Results.{◌>>=◌}
use Rattle.pyver_core.specs.Set.Admission.{admits_all}
use Rattle.pyver_core.specs.Version.Normal.{normal_text}
use Rattle.pyver_core.specs.declared.set.error.SpecifierError.{SpecifierError}
use Rattle.pyver_core.specs.declared.set.error.SpecifierError.TheVariants as specifier
use Rattle.pyver_core.specs.declared.set.specifier.Specifier.{Specifier}
use Rattle.pyver_core.specs.declared.version.error.VersionError.{VersionError}
use Rattle.pyver_core.specs.declared.version.error.VersionError.TheVariants as version
use Rattle.pymark_core.specs.Environment.{EnvironmentValue}
use Rattle.pymark_core.specs.Marker.Reading.{MarkerValue, marker_of}
use Rattle.pymark_core.specs.Marker.Value.{marker_value}
use Rattle.pymark_core.specs.Requirement.Reading.{requirement_of}
use Rattle.pymark_core.specs.Requirement.Value.{RequirementValue}
use Rattle.pymark_core.specs.declared.marker.error.MarkerError.{MarkerError}
use Rattle.pymark_core.specs.declared.marker.error.MarkerError.TheVariants as marker
use Rattle.pymark_core.specs.declared.requirement.error.RequirementError.{RequirementError}
use Rattle.pymark_core.specs.declared.requirement.error.RequirementError.TheVariants as requirement
use Rattle.pywheel_core.specs.Sdist.Reading.{sdist_of}
use Rattle.pywheel_core.specs.Sdist.Value.{SdistValue}
use Rattle.pywheel_core.specs.Tag.{tag_text}
use Rattle.pywheel_core.specs.Wheel.Reading.{wheel_of}
use Rattle.pywheel_core.specs.Wheel.Value.{WheelValue}
use Rattle.pywheel_core.specs.declared.error.SdistError.{SdistError}
use Rattle.pywheel_core.specs.declared.error.SdistError.TheVariants as sdist
use Rattle.pywheel_core.specs.declared.error.WheelError.{WheelError}
use Rattle.pywheel_core.specs.declared.error.WheelError.TheVariants as wheel
use Rattle.pylock_readers.specs.Environment.{EnvironmentRead}
use Rattle.pylock_readers.specs.Target.{target_refusal}
use Rattle.pywheel_core.specs.Target.Reading.{target_of}
use Rattle.pywheel_core.specs.Target.Value.{TargetValue}
use Rattle.pywheel_core.specs.declared.error.TargetError.{TargetError}
use Rattle.pylock_core.specs.Session.Steps.{fault_code}
use Rattle.pylock_core.specs.declared.answer.FaultCode.{FaultCode}
use Rattle.pylock_command.specs.declared.form.Form.{Form}
use Rattle.pylock_command.specs.declared.form.Form.TheVariants.{Lines, Json}
use Rattle.pylock_audit.specs.Audit.{findings_of}
use Rattle.pylock_documents.specs.Environment.{target_text}
use Rattle.pylock_documents.specs.Texts.{requirement_rows, sdist_rows, specifiers_text, wheel_rows}
use Rattle.pylock_json.specs.Json.{there, truth}
use Rattle.pylock_messages.specs.Diagnostic.{DiagnosticValue}
use Rattle.pylock_run.specs.Report.{Report}
use Rattle.pylock_run.specs.declared.report.opening.OpenError.TheVariants.{Lock, Environment}
use Rattle.pylock_program.specs.Findings.{findings_report}
use Rattle.pylock_program.specs.Opening.{environment_of}
use Rattle.pylock_program.specs.Refusal.{refused_shown, report_or_refusal}
use Rattle.pylock_program.specs.Text.Json.{fault_json, json_text}
use Rattle.pylock_run.specs.Text.Field.{field, line_of}
use Rattle.pylock_core.specs.Words.{fault_word}
use Rattle.pylock_program.specs.declared.opening.Unopened.TheVariants.{Refused}
use Rattle.pylock_program.specs.declared.refusal.Cause.{Cause}
use Rattle.pylock_program.specs.declared.refusal.Cause.TheVariants as cause
use Rattle.pylock_command.specs.declared.task.TextQuestion.{TextQuestion}
use Rattle.pylock_command.specs.declared.task.TextQuestion.TheVariants as question
use Rattle.pylock_readers.specs.declared.error.LockError.{LockError}

-- ---- what is printed, and with which status

-- an answer
abbrev pub answered : List ℕ → Report
answered text = record { text = text; status = 0 }

-- a refused text
abbrev pub refused_report : Form → List ℕ → Report
refused_report form word = record { text = refused_shown form word; status = 1 }

-- the fault of a marker: its code
abbrev pub fault_shown : Form → FaultCode → List ℕ
fault_shown Lines code = line_of (codes "fault") (fault_word code ∷ [])
fault_shown Json code = fault_json (fault_word code)

abbrev pub fault_report : Form → FaultCode → Report
fault_report form code = record { text = fault_shown form code; status = 1 }

-- a step of an answer, or what is printed in its place; out of memory is no refusal, and is never
-- printed
abbrev pub or_report : {V E : Type 0} → (E → Report) → Result V E → Result V Report
or_report report step = result_map_both (λ v. v) report step

abbrev pub or_refused : {V E : Type 0} → Form → (E → List ℕ) → Result V E → Result V Report
or_refused form word = or_report (λ e. refused_report form (word e))

-- an answer of one text: the one field of its line, or the member of this key
abbrev pub text_shown : Form → List ℕ → List ℕ → List ℕ
text_shown Lines key text = line_of (field (Some text)) []
text_shown Json key text = json_text ((key, there text) ∷ [])

-- an answer that is true or false
abbrev pub truth_word : Bool → List ℕ
truth_word true = codes "true"
truth_word false = codes "false"

abbrev pub truth_shown : Form → List ℕ → Bool → List ℕ
truth_shown Lines key value = line_of (truth_word value) []
truth_shown Json key value = json_text ((key, truth value) ∷ [])

-- ---- answers on a text: its line, or a document

-- `version TEXT`: the normal form
abbrev pub version_word : VersionError → List ℕ
version_word version.Syntax = codes "syntax"
version_word version.NumberTooLarge = codes "number"
version_word version.Memory = codes "memory"

abbrev pub version_answer : Form → List ℕ → Result (List ℕ) Report
version_answer form text = do
  v ← or_refused form version_word (parsed_version text)
  Ok (text_shown form (codes "version") (normal_text v))

-- `match SET VERSION`: whether the set admits the version
abbrev pub set_word : SpecifierError → List ℕ
set_word specifier.Syntax = codes "set-syntax"
set_word specifier.NumberTooLarge = codes "set-number"
set_word specifier.Memory = codes "memory"

abbrev pub match_word : VersionError → List ℕ
match_word version.Syntax = codes "version-syntax"
match_word version.NumberTooLarge = codes "version-number"
match_word version.Memory = codes "memory"

abbrev pub admits_answer : Form → List Specifier → List ℕ → Result (List ℕ) Report
admits_answer form specifiers text = do
  v ← or_refused form match_word (parsed_version text)
  Ok (truth_shown form (codes "match") (admits_all specifiers v))

abbrev pub match_answer : Form → List ℕ → List ℕ → Result (List ℕ) Report
match_answer form set text = do
  specifiers ← or_refused form set_word (parsed_set set)
  admits_answer form specifiers text

-- `name TEXT`: the normal form
abbrev pub name_answer : Form → List ℕ → Result (List ℕ) Report
name_answer form text =
    if is_name text
    then Ok (text_shown form (codes "name") (normal_name text))
    else Err (refused_report form (codes "name"))

-- `requirement TEXT`: name, extras, specifier set, URL, marker
abbrev pub requirement_word : RequirementError → List ℕ
requirement_word requirement.Name = codes "name"
requirement_word requirement.Extras = codes "extras"
requirement_word requirement.Specifier = codes "specifier"
requirement_word requirement.Url = codes "url"
requirement_word requirement.Marker = codes "marker"
requirement_word requirement.Trailing = codes "trailing"
requirement_word requirement.Memory = codes "memory"

-- names in normal form, joined by `,`, absent where there are none
abbrev pub names_text : List (List ℕ) → Option (List ℕ)
names_text [] = None
names_text (name ∷ names) = Some (join_by normal_name (codes ",") (name ∷ names))

abbrev pub requirement_line : RequirementValue → List ℕ
requirement_line parts =
    line_of (field (Some (normal_name parts.name)))
    (field (names_text parts.extras) ∷ field (specifiers_text parts.set) ∷ field parts.url
    ∷ field (option_map (λ marker. marker.text) parts.marker) ∷ [])

abbrev pub requirement_shown : Form → RequirementValue → List ℕ
requirement_shown Lines parts = requirement_line parts
requirement_shown Json parts = json_text (requirement_rows parts)

abbrev pub requirement_answer : Form → List ℕ → Result (List ℕ) Report
requirement_answer form text = do
  parts ← or_refused form requirement_word (requirement_of text)
  Ok (requirement_shown form parts)

-- `wheel TEXT`: name, version, build, tags
abbrev pub wheel_word : WheelError → List ℕ
wheel_word wheel.Extension = codes "extension"
wheel_word wheel.Parts = codes "parts"
wheel_word wheel.Name = codes "name"
wheel_word wheel.Version = codes "version"
wheel_word wheel.Build = codes "build"
wheel_word wheel.Tags = codes "tags"
wheel_word wheel.Memory = codes "memory"

abbrev pub wheel_shown : Form → WheelValue → List ℕ
wheel_shown Lines parts =
    line_of (field (Some (normal_name parts.name)))
    (field (Some (normal_text parts.version)) ∷ field parts.build
    ∷ field (Some (join_by tag_text (codes " ") parts.tags)) ∷ [])
wheel_shown Json parts = json_text (wheel_rows parts)

abbrev pub wheel_answer : Form → List ℕ → Result (List ℕ) Report
wheel_answer form text = do
  parts ← or_refused form wheel_word (wheel_of text)
  Ok (wheel_shown form parts)

-- `sdist TEXT`: name, version
abbrev pub sdist_word : SdistError → List ℕ
sdist_word sdist.Extension = codes "extension"
sdist_word sdist.Parts = codes "parts"
sdist_word sdist.Name = codes "name"
sdist_word sdist.Version = codes "version"
sdist_word sdist.Memory = codes "memory"

abbrev pub sdist_shown : Form → SdistValue → List ℕ
sdist_shown Lines parts =
    line_of (field (Some parts.name)) (field (Some (normal_text parts.version)) ∷ [])
sdist_shown Json parts = json_text (sdist_rows parts)

abbrev pub sdist_answer : Form → List ℕ → Result (List ℕ) Report
sdist_answer form text = do
  parts ← or_refused form sdist_word (sdist_of text)
  Ok (sdist_shown form parts)

-- the answer on a text, or what is printed in its place
abbrev pub reply_of : Result (List ℕ) Report → Report
reply_of (Ok text) = answered text
reply_of (Err report) = report

-- ---- answers on a file, or the refusal of the file

-- `marker TEXT ENV`: whether the marker is true; its text is judged before the environment
abbrev pub marker_word : MarkerError → List ℕ
marker_word marker.TooDeep = codes "too-deep"
marker_word marker.Syntax = codes "syntax"
marker_word marker.SetMisuse = codes "set-misuse"
marker_word marker.Memory = codes "memory"

-- the value in an environment
abbrev pub value_answer : Form → MarkerValue → EnvironmentValue → Result (List ℕ) Report
value_answer form marker environment = do
  value ← or_report (λ fault. fault_report form (fault_code fault))
      (marker_value environment marker.tree)
  Ok (truth_shown form (codes "marker") value)

-- the environment that is read has no extra and no group
abbrev pub marker_answer_in : Form → MarkerValue → EnvironmentRead → Result Report Cause
marker_answer_in form marker read = do
  environment ← environment_of read
  Ok (reply_of (value_answer form marker environment.0))

abbrev pub marker_answer_of : Form → EnvironmentRead → Result MarkerValue MarkerError
    → Result Report Cause
marker_answer_of form read (Ok marker) = marker_answer_in form marker read
marker_answer_of form read (Err error) = Ok (refused_report form (marker_word error))

abbrev pub marker_answer : Form → List ℕ → EnvironmentRead → Result Report Cause
marker_answer form text read = marker_answer_of form read (marker_of text)

abbrev pub marker_report : Form → Option DiagnosticValue → List ℕ → EnvironmentRead → Report
marker_report form diagnostic text read =
    report_or_refusal (Some form) diagnostic (λ report. report) (marker_answer form text read)

-- `environment --python PYTHON --platform PLATFORM`: the text of the target's environment
abbrev pub target_answer_of : Result TargetValue TargetError → Result (List ℕ) Cause
target_answer_of (Ok target) = Ok (target_text target)
target_answer_of (Err error) = Err (cause.Unopened (Refused (Environment (target_refusal error))))

abbrev pub target_answer : List ℕ → List ℕ → Result (List ℕ) Cause
target_answer python platform = target_answer_of (target_of python platform)

abbrev pub target_report : Option DiagnosticValue → List ℕ → List ℕ → Report
target_report diagnostic python platform =
    report_or_refusal (Some Lines) diagnostic answered (target_answer python platform)

-- what is read of a lock, or the refusal of the lock
abbrev pub read_or_refused : {V : Type 0} → Result V LockError → Result V Cause
read_or_refused read =
    result_map_both (λ v. v) (λ error. cause.Unopened (Refused (Lock error))) read

-- `audit LOCK`: what a careful reader would want to be told; status 1 where that is something
abbrev pub audit_report : Form → Option DiagnosticValue → List ℕ → Report
audit_report form diagnostic bytes =
    report_or_refusal (Some form) diagnostic (findings_report form)
    (read_or_refused (findings_of bytes))

-- ---- answers on a text

abbrev pub text_answer : TextQuestion → Form → Result (List ℕ) Report
text_answer (question.Version text) form = version_answer form text.now
text_answer (question.Match set version) form = match_answer form set.now version.now
text_answer (question.Name text) form = name_answer form text.now
text_answer (question.Requirement text) form = requirement_answer form text.now
text_answer (question.Wheel text) form = wheel_answer form text.now
text_answer (question.Sdist text) form = sdist_answer form text.now

abbrev pub text_report : TextQuestion → Form → Report
text_report question form = reply_of (text_answer question form)

-- A run as a SARIF document (SARIF 2.1.0, whose sections are named below).
use Rattle.std.specs.Prelude.{ℕ, ◌++◌, ◌-◌, codes, decimal, length, List, [], ◌∷◌, map, take}
use Rattle.std.specs.Prelude.{Option, Some, if◌then◌else◌, nat_lt, option_map, string_bytes, true}
use Rattle.std.specs.Option.{option_copied, option_map_or}
use Rattle.serde_json.specs.Data.{Data}
use Rattle.pylock_json.specs.Json.{Row, list_of, numbered, object_of, there, truth}
use Rattle.pylock_shown.specs.Visible.{visible}
use Rattle.pylock_sarif.specs.declared.rule.Rule.{Rule}
use Rattle.pylock_sarif.specs.declared.run.Run.{Run}
use Rattle.pylock_sarif.specs.declared.run.SarifResult.{SarifResult}
use Rattle.pylock_sarif.specs.declared.run.TextPlace.{TextPlace}
use Rattle.pylock_sarif.specs.Rule.{level_word}
use Rattle.pylock_sarif.specs.Uri.{uri_of}

-- a message (section 3.11)
abbrev pub text_data : List ℕ → Data
text_data text = object_of ((codes "text", there text) ∷ [])

-- ---- rules (section 3.49)

abbrev pub rule_rows : Rule → List Row
rule_rows rule =
    (codes "id", there rule.word.now)
    ∷ (codes "shortDescription", Some (text_data rule.description.now))
    ∷ (codes "fullDescription", Some (text_data rule.description.now))
    ∷ (codes "help", Some (text_data rule.help.now))
    ∷ (
      codes "defaultConfiguration",
      Some (object_of ((codes "level", there (level_word rule.level)) ∷ [])),
    )
    ∷ []

abbrev pub rule_data : Rule → Data
rule_data rule = object_of (rule_rows rule)

-- ---- the place of a result (section 3.28)

abbrev pub region_data : TextPlace → Data
region_data place =
    object_of ((codes "startLine", numbered place.line)
    ∷ (codes "startColumn", numbered place.column) ∷ [])

-- the file, and the place in it where that is known (section 3.29)
abbrev pub file_data : List ℕ → Option TextPlace → Data
file_data lock place =
    object_of ((
      codes "artifactLocation",
      Some (object_of ((codes "uri", there (uri_of lock)) ∷ [])),
    )
    ∷ (codes "region", option_map region_data place) ∷ [])

abbrev pub location_data : List ℕ → Option TextPlace → Data
location_data lock place =
    object_of ((codes "physicalLocation", Some (file_data lock place)) ∷ [])

-- ---- results (section 3.27)

-- a text behind a colon, where it is there
abbrev pub behind_colon : Option (List ℕ) → List ℕ
behind_colon text = codes ":" ++ option_map_or (λ bytes. bytes) text []

-- a text between two others, where it is there
abbrev pub between : List ℕ → Option (List ℕ) → List ℕ → List ℕ
between before text behind = option_map_or (λ bytes. before ++ bytes ++ behind) text []

-- what a person is told: what the rule finds, and behind it the name and the detail, in which
-- control characters stand as their numbers
abbrev pub message : SarifResult → List ℕ
message found = found.description.now
    ++ between (codes " ") (option_copied found.name) []
    ++ between (codes " (") (option_map (λ text. visible (string_bytes text)) found.detail)
    (codes ")")

-- what stays the same where the text of the lock moves: the rule, the name and the detail
abbrev pub fingerprint : SarifResult → List ℕ
fingerprint found =
    found.rule.now ++ behind_colon (option_copied found.name)
    ++ behind_colon (option_map string_bytes found.detail)

unfoldable pub result_rows : List ℕ → SarifResult → List Row
result_rows lock found =
    (codes "ruleId", there found.rule.now)
    ∷ (codes "level", there (level_word found.level))
    ∷ (codes "message", Some (text_data (message found)))
    ∷ (codes "locations", Some (list_of (location_data lock found.place ∷ [])))
    ∷ (
      codes "partialFingerprints",
      Some (object_of ((codes "pylockFinding/v1", there (fingerprint found)) ∷ [])),
    )
    ∷ (
      codes "properties",
      Some (object_of ((codes "entry", numbered found.number) ∷ [])),
    )
    ∷ []

abbrev pub result_data : List ℕ → SarifResult → Data
result_data lock found = object_of (result_rows lock found)

-- the most results of a run that GitHub takes
abbrev pub most_results : ℕ
most_results = 25000

-- ---- what was left out (section 3.20.21, toolExecutionNotifications)

abbrev pub left_out : List SarifResult → ℕ
left_out results = length results - most_results

abbrev pub notice : ℕ → List ℕ
notice count = decimal count ++ codes " results more than the 25000 of a run are left out"

abbrev pub notification_data : ℕ → Data
notification_data count =
    object_of ((codes "level", there (codes "warning"))
    ∷ (codes "message", Some (text_data (notice count))) ∷ [])

-- the run ended well, and told how many results are left out, if any
abbrev pub notifications : ℕ → List Data
notifications count = if nat_lt 0 count then notification_data count ∷ [] else []

abbrev pub invocation_data : ℕ → Data
invocation_data count =
    object_of ((codes "executionSuccessful", truth true)
    ∷ (codes "toolExecutionNotifications", Some (list_of (notifications count))) ∷ [])

-- ---- the run (section 3.14)

abbrev pub driver_data : Run → Data
driver_data run =
    object_of ((codes "name", there (codes "pylock"))
    ∷ (codes "version", there run.version.now)
    ∷ (codes "rules", Some (list_of (map rule_data run.rules.now))) ∷ [])

abbrev pub tool_data : Run → Data
tool_data run = object_of ((codes "driver", Some (driver_data run)) ∷ [])

abbrev pub run_results : Run → List Data
run_results run = map (result_data run.lock.now) (take most_results run.results.now)

unfoldable pub run_rows : Run → List Row
run_rows run =
    (codes "tool", Some (tool_data run))
    ∷ (
      codes "invocations",
      Some (list_of (invocation_data (left_out run.results.now) ∷ [])),
    )
    ∷ (codes "columnKind", there (codes "unicodeCodePoints"))
    ∷ (codes "results", Some (list_of (run_results run)))
    ∷ []

-- the document (section 3.13)
abbrev pub sarif_rows : Run → List Row
sarif_rows run =
    (codes "$schema", there (codes "https://json.schemastore.org/sarif-2.1.0.json"))
    ∷ (codes "version", there (codes "2.1.0"))
    ∷ (codes "runs", Some (list_of (object_of (run_rows run) ∷ [])))
    ∷ []

-- What is printed in place of an answer, as JSON documents.
use Rattle.std.specs.Prelude.{ℕ, List, [], ◌∷◌, codes, Option, Some}
use Rattle.std.specs.Option.{option_map_or}
use Rattle.pylock_command.specs.PlanOptions.{option_words}
use Rattle.pylock_command.specs.declared.option.PlanOption.{PlanOption}
use Rattle.pylock_documents.specs.Documents.{refused_line_rows, refused_rows}
use Rattle.pylock_documents.specs.Written.{document_text}
use Rattle.pylock_json.specs.Json.{Row, members_of, object_of, there}
use Rattle.pylock_messages.specs.Diagnostic.{DiagnosticValue}
use Rattle.pylock_run.specs.Text.Refusal.{environment_words, line_word, lock_words}
use Rattle.pylock_run.specs.declared.line.refusal.LineRefusal.{LineRefusal}
use Rattle.pylock_run.specs.declared.report.opening.OpenError.{OpenError}
use Rattle.pylock_run.specs.declared.report.opening.OpenError.TheVariants as open_error

-- a document of these members
abbrev pub json_text : List Row → List ℕ
json_text rows = document_text (members_of rows)

-- A refusal: the words of its line, and what is told beside them. Definitions above leave open what
-- is told. So of the document they say that it has the members `pylock` and `refused`, as the words
-- say, and beside them none, or `message` and some of `file`, `line`, `column`, `entry`, `name` and
-- `key`, each once, with any text or number.
unfoldable pub words_json : List (List ℕ) → Option DiagnosticValue → List ℕ
words_json words diagnostic = json_text (refused_rows words diagnostic)

-- out of memory is no refusal, and is never printed
abbrev pub refusal_json : OpenError → Option DiagnosticValue → List ℕ
refusal_json (open_error.Lock error) diagnostic =
    words_json (codes "lock" ∷ lock_words error) diagnostic
refusal_json (open_error.Environment error) diagnostic =
    words_json (codes "environment" ∷ environment_words error) diagnostic
refusal_json open_error.Memory diagnostic = []

-- a line of the input that is refused: the word of its refusal, and its number from 1
unfoldable pub line_refusal_json : ℕ → LineRefusal → List ℕ
line_refusal_json number refused =
    json_text (refused_line_rows number (line_word refused ∷ []))

-- the fault of a marker: its code
abbrev pub fault_json : List ℕ → List ℕ
fault_json code =
    json_text ((codes "fault", Some (object_of ((codes "code", there code) ∷ []))) ∷ [])

-- an option that is refused: its word, without the dashes, and its text as it was given
abbrev pub option_json : PlanOption → Option DiagnosticValue → List ℕ
option_json option =
    let words = option_words option in
    words_json (words.0 ∷ option_map_or (λ text. text ∷ []) words.1 [])

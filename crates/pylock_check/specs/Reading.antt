-- The reading of a project file (`pyproject.toml`) from the bytes of its text. Each step gives a
-- value or a refusal; the first refusal, in the order of the steps, is the file's. Keys that aren't
-- named here are ignored.
use Rattle.std.specs.Prelude.{ℕ, ◌++◌, codes, List, [], ◌∷◌, Option, Some, None, ok_or, Result, Ok}
use Rattle.std.specs.Prelude.{Err, option_and_then, option_map, if◌then◌else◌, is_some}
use Rattle.toml.specs.Data.{Data, table, Items, no_items, item, as_array, as_str, as_table, get}
use Rattle.toml.specs.Parse.{parse_document}
use Rattle.pytext.specs.Results.{◌>>=◌}
use Rattle.pyver_core.specs.Parsed.{parsed_set}
use Rattle.pyver_core.specs.declared.set.specifier.Specifier.{Specifier}
use Rattle.pylock_readers.specs.Entry.Fields.{or_refused}
use Rattle.pylock_readers.specs.Text.{utf8_text}
use Rattle.pylock_check.specs.Groups.{proper_groups}
use Rattle.pylock_check.specs.Project.{ProjectValue}
use Rattle.pylock_check.specs.Requirements.{dependencies_in}
use Rattle.pylock_check.specs.Sections.{sections_in}
use Rattle.pylock_check.specs.declared.error.ProjectError.{ProjectError}
use Rattle.pylock_check.specs.declared.error.ProjectError.TheVariants as error
use Rattle.pylock_check.specs.declared.requirements.ListKind.TheVariants as kind

-- ---- keys of the table `project` (PEP 621)

-- the table itself, which may be absent
abbrev pub project_table : Option Data → Result (Option Data) ProjectError
project_table None = Ok None
project_table (Some d) =
    if is_some (as_table d) then Ok (Some d) else Err (error.WrongType (codes "project"))

-- the value of a key, where both are there
abbrev pub value_at : List ℕ → Option Data → Option Data
value_at key project = option_and_then (get key) project

-- the set that a text writes (PEP 440)
unfoldable pub python_of : Data → Result (List Specifier) ProjectError
python_of d =
    ok_or (as_str d) (error.WrongType (codes "project.requires-python")) >>= λ text.
    or_refused error.Specifiers (parsed_set text)

abbrev pub requires_python_in : Option Data → Result (Option (List Specifier)) ProjectError
requires_python_in None = Ok None
requires_python_in (Some d) = python_of d >>= λ set. Ok (Some set)

abbrev pub with_texts : List (List ℕ) → Items → Result (List (List ℕ)) ProjectError
with_texts texts no_items = Ok texts
with_texts texts (item d ds) =
    ok_or (as_str d) (error.WrongType (codes "project.dynamic"))
    >>= (λ text. with_texts (texts ++ text ∷ []) ds)

-- the keys that another tool is to give, none where it is absent
abbrev pub dynamic_in : Option Data → Result (List (List ℕ)) ProjectError
dynamic_in None = Ok []
dynamic_in (Some d) =
    ok_or (as_array d) (error.WrongType (codes "project.dynamic")) >>= with_texts []

-- ---- the file

unfoldable pub project_in : Data → Result ProjectValue ProjectError
project_in document = do
  project ← project_table (get (codes "project") document)
  requires_python ← requires_python_in (value_at (codes "requires-python") project)
  dynamic ← dynamic_in (value_at (codes "dynamic") project)
  dependencies ← dependencies_in (value_at (codes "dependencies") project)
  extras ← sections_in kind.Requirements (value_at (codes "optional-dependencies") project)
  groups ← sections_in kind.Group (get (codes "dependency-groups") document)
  _ ← proper_groups groups
  Ok (record {
    requires_python = requires_python;
    dynamic = dynamic;
    dependencies = dependencies;
    extras = extras;
    groups = groups;
  })

-- the text as a TOML document
abbrev pub document_of : List ℕ → Result Data ProjectError
document_of text = ok_or (option_map table (parse_document text)) error.Toml

-- the project that the bytes describe
unfoldable pub project_of : List ℕ → Result ProjectValue ProjectError
project_of bytes = do
  text ← ok_or (utf8_text bytes) error.NotText
  document ← document_of text
  project_in document

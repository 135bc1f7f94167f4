-- The list of what is installed: what `pip list --format json` prints, an array of elements, or
-- what `pip inspect` prints, an object whose `installed` is one.
use Rattle.std.specs.Prelude.{ℕ, ◌+◌, ◌++◌, codes, List, [], ◌∷◌, Option, Some, if◌then◌else◌}
use Rattle.std.specs.Prelude.{ok_or, option_and_then, option_map, Result, Ok, Err}
use Rattle.std.specs.List.{list_any}
use Rattle.serde_json.specs.Data.{Data, Items, no_items, item}
use Rattle.serde_json.specs.Find.{get, as_array}
use Rattle.serde_json.specs.Read.{read}
use Rattle.pytext.specs.Options.{either}
use Rattle.pytext.specs.Results.{◌>>=◌}
use Rattle.pylock_readers.specs.Text.{utf8_text}
use Rattle.pylock_installed.specs.Element.{project_in}
use Rattle.pylock_installed.specs.Project.{ProjectValue, is_named}
use Rattle.pylock_installed.specs.declared.error.InstalledError.{InstalledError}
use Rattle.pylock_installed.specs.declared.error.InstalledError.TheVariants as error
use Rattle.pylock_installed.specs.declared.reading.Form.{Form}
use Rattle.pylock_installed.specs.declared.reading.Form.TheVariants as form

-- the projects with one more, whose element stands at this place
abbrev pub with_project : ℕ → List ProjectValue → ProjectValue
    → Result (List ProjectValue) InstalledError
with_project place projects project =
    if list_any (is_named project.name) projects
    then Err (error.Twice place)
    else Ok (projects ++ project ∷ [])

-- the projects with that of one more element, which stands at this place
unfoldable pub with_element : Form → ℕ → List ProjectValue → Data
    → Result (List ProjectValue) InstalledError
with_element form place projects element =
    ok_or (project_in form element) (error.Element place) >>= with_project place projects

-- the projects with those of these elements, the first of which stands at this place
abbrev pub with_elements : Form → ℕ → List ProjectValue → Items
    → Result (List ProjectValue) InstalledError
with_elements form place projects no_items = Ok projects
with_elements form place projects (item element elements) =
    with_element form place projects element
    >>= (λ more. with_elements form (place + 1) more elements)

-- a list in this form
abbrev pub elements_of : Form → Option Data → Option (Form × Items)
elements_of form list = option_map (λ items. (form, items)) (option_and_then as_array list)

-- the elements, and the form that they have
abbrev pub elements_in : Data → Result (Form × Items) InstalledError
elements_in d =
    ok_or
    (either (elements_of form.List (Some d)) (elements_of form.Inspect (get (codes "installed") d)))
    error.Shape

-- the projects of a value, in its order
unfoldable pub projects_in : Data → Result (List ProjectValue) InstalledError
projects_in d = do
  list ← elements_in d
  with_elements list.0 1 [] list.1

-- the text as JSON
abbrev pub value_of : List ℕ → Result Data InstalledError
value_of text = ok_or (read text) error.Json

-- the projects that the bytes list
unfoldable pub installed_of : List ℕ → Result (List ProjectValue) InstalledError
installed_of bytes = do
  text ← ok_or (utf8_text bytes) error.Json
  value ← value_of text
  projects_in value

-- The reading of a list is never out of memory.
use Rattle.std.proofs.Common.{ℕ, ◌+◌, ◌++◌, List, [], ◌∷◌, Some, codes, ok_or, Ok, Err}
use Rattle.std.specs.List.{list_any}
use Rattle.serde_json.specs.Data.{Data, Items, no_items, item}
use Rattle.serde_json.specs.Find.{get}
use Rattle.serde_json.specs.Read.{read}
use Rattle.pytext.specs.Options.{either}
use Rattle.pytext.proofs.NeverLemmas.{Never, never_cond, never_err, never_ok, never_or, never_then}
use Rattle.pylock_readers.specs.Text.{utf8_text}
use Rattle.pylock_installed.specs.Element.{project_in}
use Rattle.pylock_installed.specs.Project.{ProjectValue, is_named}
use Rattle.pylock_installed.specs.Reading.{elements_in, elements_of, installed_of, projects_in, value_of, with_element, with_elements}
use Rattle.pylock_installed.specs.declared.error.InstalledError.TheVariants as error
use Rattle.pylock_installed.specs.declared.reading.Form.{Form}
use Rattle.pylock_installed.specs.declared.reading.Form.TheVariants as form

element_never_memory : (f : Form) (place : ℕ) (projects : List ProjectValue) (element : Data) → Never error.Memory (with_element f place projects element)
unfolding with_element
element_never_memory f place projects element =
    never_then error.Memory (ok_or (project_in f element) (error.Element place)) _ (never_or error.Memory (error.Element place) (project_in f element) (λ e. cc e))
    (λ project. never_cond error.Memory (list_any (is_named project.name) projects) (Err (error.Twice place)) (Ok (projects ++ project ∷ []))
    (never_err error.Memory (error.Twice place) (λ e. cc e)) (never_ok error.Memory (projects ++ project ∷ [])))

elements_never_memory : (f : Form) (place : ℕ) (projects : List ProjectValue) (elements : Items) → Never error.Memory (with_elements f place projects elements)
elements_never_memory f place projects no_items = never_ok error.Memory projects
elements_never_memory f place projects (item element elements) =
    never_then error.Memory (with_element f place projects element) (λ more. with_elements f (place + 1) more elements) (element_never_memory f place projects element)
    (λ more. elements_never_memory f (place + 1) more elements)

value_never_memory : (d : Data) → Never error.Memory (projects_in d)
unfolding projects_in
value_never_memory d =
    never_then error.Memory (elements_in d) _
    (never_or error.Memory error.Shape (either (elements_of form.List (Some d)) (elements_of form.Inspect (get (codes "installed") d))) (λ e. cc e))
    (λ list. elements_never_memory list.0 1 [] list.1)

pub never_memory : (bytes : List ℕ) → Never error.Memory (installed_of bytes)
unfolding installed_of
never_memory bytes =
    never_then error.Memory (ok_or (utf8_text bytes) error.Json) _ (never_or error.Memory error.Json (utf8_text bytes) (λ e. cc e))
    (λ text. never_then error.Memory (value_of text) projects_in (never_or error.Memory error.Json (read text) (λ e. cc e)) value_never_memory)

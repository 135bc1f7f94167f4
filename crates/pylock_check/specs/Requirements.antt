-- A list of requirements (PEP 621, `dependencies`), in which groups may be included (PEP 735).
use Rattle.std.specs.Prelude.{ℕ, ◌+◌, ◌++◌, Bool, true, false, codes, decimal, List, [], ◌∷◌}
use Rattle.std.specs.Prelude.{Option, Some, None, ok_or, Result, Ok, Err, if◌then◌else◌}
use Rattle.std.specs.Prelude.{option_and_then}
use Rattle.toml.specs.Data.{Data, Items, no_items, item, Members, no_members, member}
use Rattle.toml.specs.Data.{as_array, as_str, as_table, get_member}
use Rattle.pytext.specs.Results.{◌>>=◌}
use Rattle.pyver_core.specs.Name.{is_name, normal_name}
use Rattle.pymark_core.specs.Requirement.Reading.{requirement_of}
use Rattle.pylock_readers.specs.Entry.Fields.{or_refused}
use Rattle.pylock_check.specs.Project.{DeclarationValue, IncludeValue, RequirementsValue}
use Rattle.pylock_check.specs.Project.{no_requirements}
use Rattle.pylock_check.specs.declared.error.ProjectError.{ProjectError}
use Rattle.pylock_check.specs.declared.error.ProjectError.TheVariants as error
use Rattle.pylock_check.specs.declared.requirements.ListKind.{ListKind}
use Rattle.pylock_check.specs.declared.requirements.ListKind.TheVariants as kind

-- where an element of a list stands: where the list does, and its number, from 1
abbrev pub element_place : List ℕ → ℕ → List ℕ
element_place place number = place ++ codes " " ++ decimal number

-- ---- an element

-- the requirement that a text is (PEP 508)
unfoldable pub declaration_of : (place text : List ℕ) → Result DeclarationValue ProjectError
declaration_of place text =
    or_refused (error.Requirement place) (requirement_of text) >>= λ requirement.
    Ok (record { place = place; name = normal_name requirement.name; requirement = requirement })

-- a table has one member
abbrev pub is_single : Members → Bool
is_single no_members = false
is_single (member key d no_members) = true
is_single (member key d (member other e rest)) = false

-- the text of `include-group`, which is the table's only key (PEP 735, "Dependency Group Include")
abbrev pub included_text : Members → Option (List ℕ)
included_text table =
    if is_single table then option_and_then as_str (get_member (codes "include-group") table)
    else None

-- the group of this name
abbrev pub include_named : (place text : List ℕ) → Result IncludeValue ProjectError
include_named place text =
    if is_name text then Ok (record { place = place; name = normal_name text })
    else Err (error.Name place)

-- the group that a table includes
unfoldable pub include_of : List ℕ → Data → Result IncludeValue ProjectError
include_of place d = do
  table ← ok_or (as_table d) (error.WrongType place)
  text ← ok_or (included_text table) (error.Include place)
  include_named place text

abbrev pub with_declaration : RequirementsValue → DeclarationValue → RequirementsValue
with_declaration list declaration =
    record list { declarations = list.declarations ++ declaration ∷ [] }

abbrev pub with_include : RequirementsValue → IncludeValue → RequirementsValue
with_include list include = record list { includes = list.includes ++ include ∷ [] }

-- what is no text is an include, where the list may have any
abbrev pub with_other : ListKind → List ℕ → RequirementsValue → Data
    → Result RequirementsValue ProjectError
with_other kind.Requirements place list d = Err (error.WrongType place)
with_other kind.Group place list d =
    include_of place d >>= λ include. Ok (with_include list include)

abbrev pub with_text : ListKind → List ℕ → RequirementsValue → Data → Option (List ℕ)
    → Result RequirementsValue ProjectError
with_text kind place list d None = with_other kind place list d
with_text kind place list d (Some text) =
    declaration_of place text >>= λ declaration. Ok (with_declaration list declaration)

-- the list with what one more element says, which stands there
unfoldable pub with_element : ListKind → List ℕ → RequirementsValue → Data
    → Result RequirementsValue ProjectError
with_element kind place list d = with_text kind place list d (as_str d)

-- ---- the list

-- the list with what these elements say, the first of which has this number
abbrev pub with_elements : ListKind → (place : List ℕ) → ℕ → RequirementsValue → Items
    → Result RequirementsValue ProjectError
with_elements kind place number list no_items = Ok list
with_elements kind place number list (item d ds) =
    with_element kind (element_place place number) list d
    >>= (λ more. with_elements kind place (number + 1) more ds)

-- the list that a value is, which stands there
unfoldable pub requirements_of : ListKind → (place : List ℕ) → Data
    → Result RequirementsValue ProjectError
requirements_of kind place d =
    ok_or (as_array d) (error.WrongType place)
    >>= with_elements kind place 1 no_requirements

-- the requirements of `project.dependencies`, none where it is absent (PEP 621, `dependencies`)
abbrev pub dependencies_in : Option Data → Result RequirementsValue ProjectError
dependencies_in None = Ok no_requirements
dependencies_in (Some d) = requirements_of kind.Requirements (codes "project.dependencies") d

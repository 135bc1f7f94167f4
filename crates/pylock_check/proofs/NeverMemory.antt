-- The reading of a project file is never out of memory.
use Rattle.std.proofs.Common.{◌≡◌, ℕ, ◌+◌, ◌++◌, not, List, [], ◌∷◌, Option, Some, None, codes, is_some, ok_or, option_map, Result, Ok, Err}
use Rattle.std.specs.List.{list_any}
use Rattle.toml.specs.Data.{Data, table, Items, no_items, item, Members, no_members, member, as_array, as_str, as_table, get}
use Rattle.toml.specs.Parse.{parse_document}
use Rattle.pytext.proofs.NeverLemmas.{Never, never_cond, never_err, never_ok, never_or, never_then}
use Rattle.pyver_core.specs.Name.{is_name, normal_name}
use Rattle.pyver_core.specs.Parsed.{parsed_set}
use Rattle.pymark_core.specs.Requirement.Reading.{requirement_of}
use Rattle.pylock_readers.specs.Entry.Fields.{or_refused}
use Rattle.pylock_readers.specs.Text.{utf8_text}
use Rattle.pylock_check.specs.Groups.{MarkedValue, all_end, ends, found_of, is_known, known_in, known_includes, proper_groups}
use Rattle.pylock_check.specs.Project.{IncludeValue, RequirementsValue, SectionValue, is_named, no_requirements}
use Rattle.pylock_check.specs.Reading.{document_of, dynamic_in, project_in, project_of, project_table, python_of, requires_python_in, value_at, with_texts}
use Rattle.pylock_check.specs.Requirements.{declaration_of, dependencies_in, element_place, include_named, include_of, included_text, requirements_of, with_element, with_elements, with_include, with_other, with_text}
use Rattle.pylock_check.specs.Sections.{new_name, section_place, sections_in, table_place, with_section, with_sections}
use Rattle.pylock_check.specs.declared.error.ProjectError.{ProjectError}
use Rattle.pylock_check.specs.declared.error.ProjectError.TheVariants as error
use Rattle.pylock_check.specs.declared.requirements.ListKind.{ListKind}
use Rattle.pylock_check.specs.declared.requirements.ListKind.TheVariants as kind

-- a reading gives no such answer
abbrev Fine : {A : Type 0} → Result A ProjectError → Type 0
Fine r = Never error.Memory r

refused_fine : {V D : Type 0} (other : ProjectError) (r : Result V D) → (other ≡ error.Memory → ⊥) → Fine (or_refused other r)
refused_fine other (Ok x) differ e = absurd cc
refused_fine other (Err r) differ e = differ cc

wrong_type_fine : {A : Type 0} (place : List ℕ) (o : Option A) → Fine (ok_or o (error.WrongType place))
wrong_type_fine place o = never_or error.Memory (error.WrongType place) o (λ e. cc e)

-- ---- lists of requirements

declaration_fine : (place text : List ℕ) → Fine (declaration_of place text)
unfolding declaration_of
declaration_fine place text =
    never_then error.Memory (or_refused (error.Requirement place) (requirement_of text)) _ (refused_fine (error.Requirement place) (requirement_of text) (λ e. cc e))
    (λ requirement. never_ok error.Memory (record { place = place; name = normal_name requirement.name; requirement = requirement }))

named_fine : (place text : List ℕ) → Fine (include_named place text)
named_fine place text =
    never_cond error.Memory (is_name text) (Ok (record { place = place; name = normal_name text })) (Err (error.Name place))
    (never_ok error.Memory (record { place = place; name = normal_name text })) (never_err error.Memory (error.Name place) (λ e. cc e))

include_fine : (place : List ℕ) (d : Data) → Fine (include_of place d)
unfolding include_of
include_fine place d =
    never_then error.Memory (ok_or (as_table d) (error.WrongType place)) _ (wrong_type_fine place (as_table d))
    (λ members. never_then error.Memory (ok_or (included_text members) (error.Include place)) _ (never_or error.Memory (error.Include place) (included_text members) (λ e. cc e)) (named_fine place))

other_fine : (k : ListKind) (place : List ℕ) (list : RequirementsValue) (d : Data) → Fine (with_other k place list d)
other_fine kind.Requirements place list d = never_err error.Memory (error.WrongType place) (λ e. cc e)
other_fine kind.Group place list d = never_then error.Memory (include_of place d) _ (include_fine place d) (λ include. never_ok error.Memory (with_include list include))

text_fine : (k : ListKind) (place : List ℕ) (list : RequirementsValue) (d : Data) (o : Option (List ℕ)) → Fine (with_text k place list d o)
text_fine k place list d None = other_fine k place list d
text_fine k place list d (Some text) =
    never_then error.Memory (declaration_of place text) _ (declaration_fine place text) (λ declaration. never_ok error.Memory _)

element_fine : (k : ListKind) (place : List ℕ) (list : RequirementsValue) (d : Data) → Fine (with_element k place list d)
unfolding with_element
element_fine k place list d = text_fine k place list d (as_str d)

elements_fine : (k : ListKind) (place : List ℕ) (number : ℕ) (list : RequirementsValue) (ds : Items) → Fine (with_elements k place number list ds)
elements_fine k place number list no_items = never_ok error.Memory list
elements_fine k place number list (item d ds) =
    never_then error.Memory (with_element k (element_place place number) list d) (λ more. with_elements k place (number + 1) more ds)
    (element_fine k (element_place place number) list d) (λ more. elements_fine k place (number + 1) more ds)

requirements_fine : (k : ListKind) (place : List ℕ) (d : Data) → Fine (requirements_of k place d)
unfolding requirements_of
requirements_fine k place d =
    never_then error.Memory (ok_or (as_array d) (error.WrongType place)) _ (wrong_type_fine place (as_array d)) (elements_fine k place 1 no_requirements)

dependencies_fine : (o : Option Data) → Fine (dependencies_in o)
dependencies_fine None = never_ok error.Memory no_requirements
dependencies_fine (Some d) = requirements_fine kind.Requirements (codes "project.dependencies") d

-- ---- sections

name_fine : (place : List ℕ) (sections : List SectionValue) (key : List ℕ) → Fine (new_name place sections key)
name_fine place sections key =
    never_cond error.Memory (not (is_name key)) (Err (error.Name place)) _ (never_err error.Memory (error.Name place) (λ e. cc e))
    (never_cond error.Memory (list_any (is_named (normal_name key)) sections) (Err (error.Twice place)) (Ok (normal_name key))
    (never_err error.Memory (error.Twice place) (λ e. cc e)) (never_ok error.Memory (normal_name key)))

section_fine : (k : ListKind) (sections : List SectionValue) (key : List ℕ) (d : Data) → Fine (with_section k sections key d)
unfolding with_section
section_fine k sections key d =
    never_then error.Memory (new_name (section_place k key) sections key) _ (name_fine (section_place k key) sections key)
    (λ name. never_then error.Memory (requirements_of k (section_place k key) d) _ (requirements_fine k (section_place k key) d) (λ requirements. never_ok error.Memory _))

members_fine : (k : ListKind) (sections : List SectionValue) (ms : Members) → Fine (with_sections k sections ms)
members_fine k sections no_members = never_ok error.Memory sections
members_fine k sections (member key d rest) =
    never_then error.Memory (with_section k sections key d) (λ more. with_sections k more rest) (section_fine k sections key d) (λ more. members_fine k more rest)

sections_fine : (k : ListKind) (o : Option Data) → Fine (sections_in k o)
unfolding sections_in
sections_fine k None = never_ok error.Memory []
sections_fine k (Some d) =
    never_then error.Memory (ok_or (as_table d) (error.WrongType (table_place k))) _ (wrong_type_fine (table_place k) (as_table d)) (members_fine k [])

-- ---- groups

includes_fine : (groups : List SectionValue) (includes : List IncludeValue) → Fine (known_includes groups includes)
includes_fine groups [] = never_ok error.Memory tt
includes_fine groups (include ∷ includes) =
    never_cond error.Memory (is_known groups include) (known_includes groups includes) (Err (error.UnknownGroup include.place)) (includes_fine groups includes)
    (never_err error.Memory (error.UnknownGroup include.place) (λ e. cc e))

known_fine : (groups rest : List SectionValue) → Fine (known_in groups rest)
known_fine groups [] = never_ok error.Memory tt
known_fine groups (group ∷ rest) =
    never_then error.Memory (known_includes groups group.requirements.includes) (λ _. known_in groups rest) (includes_fine groups group.requirements.includes)
    (λ _. known_fine groups rest)

end_fine : (found : List MarkedValue) → Fine (all_end found)
end_fine [] = never_ok error.Memory tt
end_fine (marked ∷ rest) =
    never_cond error.Memory marked.is_so (all_end rest) (Err (error.Cycle marked.group.place)) (end_fine rest)
    (never_err error.Memory (error.Cycle marked.group.place) (λ e. cc e))

groups_fine : (groups : List SectionValue) → Fine (proper_groups groups)
unfolding proper_groups
groups_fine groups = never_then error.Memory (known_in groups groups) _ (known_fine groups groups) (λ _. end_fine (found_of ends groups))

-- ---- the file

table_fine : (o : Option Data) → Fine (project_table o)
table_fine None = never_ok error.Memory None
table_fine (Some d) =
    never_cond error.Memory (is_some (as_table d)) (Ok (Some d)) (Err (error.WrongType (codes "project"))) (never_ok error.Memory (Some d))
    (never_err error.Memory (error.WrongType (codes "project")) (λ e. cc e))

set_fine : (d : Data) → Fine (python_of d)
unfolding python_of
set_fine d =
    never_then error.Memory (ok_or (as_str d) (error.WrongType (codes "project.requires-python"))) _ (wrong_type_fine (codes "project.requires-python") (as_str d))
    (λ text. refused_fine error.Specifiers (parsed_set text) (λ e. cc e))

python_fine : (o : Option Data) → Fine (requires_python_in o)
python_fine None = never_ok error.Memory None
python_fine (Some d) = never_then error.Memory (python_of d) _ (set_fine d) (λ set. never_ok error.Memory (Some set))

texts_fine : (texts : List (List ℕ)) (ds : Items) → Fine (with_texts texts ds)
texts_fine texts no_items = never_ok error.Memory texts
texts_fine texts (item d ds) =
    never_then error.Memory (ok_or (as_str d) (error.WrongType (codes "project.dynamic"))) (λ text. with_texts (texts ++ text ∷ []) ds)
    (wrong_type_fine (codes "project.dynamic") (as_str d)) (λ text. texts_fine (texts ++ text ∷ []) ds)

dynamic_fine : (o : Option Data) → Fine (dynamic_in o)
dynamic_fine None = never_ok error.Memory []
dynamic_fine (Some d) =
    never_then error.Memory (ok_or (as_array d) (error.WrongType (codes "project.dynamic"))) _ (wrong_type_fine (codes "project.dynamic") (as_array d)) (texts_fine [])

project_fine : (document : Data) → Fine (project_in document)
unfolding project_in
project_fine document =
    never_then error.Memory (project_table (get (codes "project") document)) _ (table_fine (get (codes "project") document))
    (λ project. never_then error.Memory (requires_python_in (value_at (codes "requires-python") project)) _ (python_fine (value_at (codes "requires-python") project))
    (λ python. never_then error.Memory (dynamic_in (value_at (codes "dynamic") project)) _ (dynamic_fine (value_at (codes "dynamic") project))
    (λ dynamic. never_then error.Memory (dependencies_in (value_at (codes "dependencies") project)) _ (dependencies_fine (value_at (codes "dependencies") project))
    (λ dependencies. never_then error.Memory (sections_in kind.Requirements (value_at (codes "optional-dependencies") project)) _
    (sections_fine kind.Requirements (value_at (codes "optional-dependencies") project))
    (λ extras. never_then error.Memory (sections_in kind.Group (get (codes "dependency-groups") document)) _ (sections_fine kind.Group (get (codes "dependency-groups") document))
    (λ groups. never_then error.Memory (proper_groups groups) _ (groups_fine groups) (λ _. never_ok error.Memory _)))))))

pub never_memory : (bytes : List ℕ) → Never error.Memory (project_of bytes)
unfolding project_of
never_memory bytes =
    never_then error.Memory (ok_or (utf8_text bytes) error.NotText) _ (never_or error.Memory error.NotText (utf8_text bytes) (λ e. cc e))
    (λ text. never_then error.Memory (document_of text) project_in (never_or error.Memory error.Toml (option_map table (parse_document text)) (λ e. cc e)) project_fine)

-- The tables of extras (PEP 621, `optional-dependencies`) and of dependency groups (PEP 735,
-- "Specification"): under each name a list.
use Rattle.std.specs.Prelude.{ℕ, ◌++◌, not, codes, List, [], ◌∷◌, Option, Some, None, ok_or, Result}
use Rattle.std.specs.Prelude.{Ok, Err, if◌then◌else◌}
use Rattle.std.specs.List.{list_any}
use Rattle.toml.specs.Data.{Data, Members, no_members, member, as_table}
use Rattle.pytext.specs.Results.{◌>>=◌}
use Rattle.pyver_core.specs.Name.{is_name, normal_name}
use Rattle.pylock_check.specs.Project.{SectionValue, is_named}
use Rattle.pylock_check.specs.Requirements.{requirements_of}
use Rattle.pylock_check.specs.declared.error.ProjectError.{ProjectError}
use Rattle.pylock_check.specs.declared.error.ProjectError.TheVariants as error
use Rattle.pylock_check.specs.declared.requirements.ListKind.{ListKind}
use Rattle.pylock_check.specs.declared.requirements.ListKind.TheVariants as kind

-- where the table of the lists stands
abbrev pub table_place : ListKind → List ℕ
table_place kind.Requirements = codes "project.optional-dependencies"
table_place kind.Group = codes "dependency-groups"

-- where the list under a key stands
abbrev pub section_place : ListKind → List ℕ → List ℕ
section_place kind key = table_place kind ++ codes "." ++ key

-- no section of these has the name yet: two spellings of one name are refused (PEP 735)
abbrev pub new_name : List ℕ → List SectionValue → List ℕ → Result (List ℕ) ProjectError
new_name place sections key =
    if not (is_name key) then Err (error.Name place)
    else if list_any (is_named (normal_name key)) sections then Err (error.Twice place)
    else Ok (normal_name key)

-- the sections with one more
unfoldable pub with_section : ListKind → List SectionValue → (key : List ℕ) → Data
    → Result (List SectionValue) ProjectError
with_section kind sections key d = do
  name ← new_name (section_place kind key) sections key
  requirements ← requirements_of kind (section_place kind key) d
  Ok (sections ++ record {
    place = section_place kind key;
    name = name;
    requirements = requirements;
  } ∷ [])

-- the sections with those of these members, which are in the order of their keys
abbrev pub with_sections : ListKind → List SectionValue → Members
    → Result (List SectionValue) ProjectError
with_sections kind sections no_members = Ok sections
with_sections kind sections (member key d rest) =
    with_section kind sections key d >>= (λ more. with_sections kind more rest)

-- the sections of a table, none where it is absent
unfoldable pub sections_in : ListKind → Option Data → Result (List SectionValue) ProjectError
sections_in kind None = Ok []
sections_in kind (Some d) =
    ok_or (as_table d) (error.WrongType (table_place kind)) >>= with_sections kind []

-- What a project file says (`pyproject.toml`): PEP 621, and PEP 735 for its dependency groups. A
-- text is the list of the bytes of its UTF-8.
use Rattle.std.specs.Prelude.{ℕ, Bool, List, [], Option}
use Rattle.std.specs.Str.{bytes_eq}
use Rattle.pyver_core.specs.declared.set.specifier.Specifier.{Specifier}
use Rattle.pymark_core.specs.Requirement.Value.{RequirementValue}

-- a requirement, where it stands, and the name in it in normal form
pub record DeclarationValue : Type 0 where
  pub place : List ℕ
  pub name : List ℕ
  pub requirement : RequirementValue

-- a dependency group that another one includes, and where it does (PEP 735, "Dependency Group
-- Include"); the name is in normal form
pub record IncludeValue : Type 0 where
  pub place : List ℕ
  pub name : List ℕ

-- what a list has: requirements, and the groups that it includes
pub record RequirementsValue : Type 0 where
  pub declarations : List DeclarationValue
  pub includes : List IncludeValue

-- an extra or a dependency group: where it stands, its name in normal form, and its list
pub record SectionValue : Type 0 where
  pub place : List ℕ
  pub name : List ℕ
  pub requirements : RequirementsValue

-- the keys of the table `project`, and the dependency groups
pub record ProjectValue : Type 0 where
  pub requires_python : Option (List Specifier)
  pub dynamic : List (List ℕ)
  pub dependencies : RequirementsValue
  pub extras : List SectionValue
  pub groups : List SectionValue

-- the section has this name, which is in normal form
abbrev pub is_named : List ℕ → SectionValue → Bool
is_named name section = bytes_eq name section.name

abbrev pub no_requirements : RequirementsValue
no_requirements = record { declarations = []; includes = [] }

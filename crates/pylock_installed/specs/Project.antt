-- A project that is installed.
use Rattle.std.specs.Prelude.{ℕ, Bool, List, [], ◌∷◌, map, Option, Some, None, if◌then◌else◌}
use Rattle.std.specs.Str.{bytes_eq}
use Rattle.pylock_installed.specs.declared.origin.Origin.{Origin}

-- its name in normal form, its version as written, and where it was installed from
pub record ProjectValue : Type 0 where
  pub name : List ℕ
  pub version : List ℕ
  pub origin : Origin

-- the name, in normal form, is the project's
abbrev pub is_named : List ℕ → ProjectValue → Bool
is_named name project = bytes_eq name project.name

-- the first project of the name
abbrev pub project_named : List ℕ → List ProjectValue → Option ProjectValue
project_named name [] = None
project_named name (project ∷ projects) =
    if is_named name project then Some project else project_named name projects

abbrev pub names : List ProjectValue → List (List ℕ)
names projects = map (λ project. project.name) projects

-- The words of a refused project file.
use Rattle.std.specs.Prelude.{ℕ, codes, List, Option, Some, None}
use Rattle.pylock_check.specs.declared.error.ProjectError.{ProjectError}
use Rattle.pylock_check.specs.declared.error.ProjectError.TheVariants as error

-- what is wrong; out of memory is no refusal, and is never printed
abbrev pub project_word : ProjectError → List ℕ
project_word error.NotText = codes "not-text"
project_word error.Toml = codes "toml"
project_word (error.WrongType place) = codes "type"
project_word error.Specifiers = codes "requires-python"
project_word (error.Requirement place) = codes "requirement"
project_word (error.Name place) = codes "name"
project_word (error.Twice place) = codes "twice"
project_word (error.Include place) = codes "include"
project_word (error.UnknownGroup place) = codes "unknown-group"
project_word (error.Cycle place) = codes "cycle"
project_word error.Memory = codes "memory"

-- where it is wrong
abbrev pub project_place : ProjectError → Option (List ℕ)
project_place (error.WrongType place) = Some place
project_place (error.Requirement place) = Some place
project_place (error.Name place) = Some place
project_place (error.Twice place) = Some place
project_place (error.Include place) = Some place
project_place (error.UnknownGroup place) = Some place
project_place (error.Cycle place) = Some place
project_place other = None

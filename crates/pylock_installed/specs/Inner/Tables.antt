-- Tables in which names and projects are found.
use Rattle.std.specs.Prelude.{◌≡◌, ℕ, Bool, List, [], ◌∷◌, Option, option_map}
use Rattle.std.specs.Borrow.{Bor}
use Rattle.std.specs.BTreeMap.{BTreeMap, get_by}
use Rattle.std.specs.BTreeSet.{BTreeSet, contains_by, contains_text}
use Rattle.std.specs.Cmp.Lexicographic.{slice_cmp}
use Rattle.std.specs.Global.{Global}
use Rattle.std.specs.List.{list_any}
use Rattle.std.specs.Option.{option_map_or}
use Rattle.std.specs.Ordering.{nat_cmp}
use Rattle.std.specs.declared.string.String.{String}
use Rattle.pylock_core.specs.Session.State.{State, entry_at}
use Rattle.pylock_core.specs.declared.answer.Pick.{Pick}
use Rattle.pylock_installed.specs.Project.{ProjectValue, is_named}
use Rattle.pylock_installed.specs.Steps.{StepValue, step_for}

-- the names in the set are those of the projects
abbrev pub AreNames : BTreeSet (String Global) → List ProjectValue → Type 0
AreNames names projects =
    (name : List ℕ) → contains_text names name ≡ list_any (is_named name) projects

-- whether a set has the name
abbrev pub has : BTreeSet (Bor (List ℕ)) → List ℕ → Bool
has set name = contains_by (λ key. slice_cmp nat_cmp name key.now) set

-- the project that a table has under the name
abbrev pub found : BTreeMap (Bor (List ℕ)) (Bor ProjectValue) → List ℕ → Option ProjectValue
found table name =
    option_map (λ project. project.now) (get_by (λ key. slice_cmp nat_cmp name key.now) table)

-- the step for a pick, where the table has the projects
abbrev pub found_steps : State → BTreeMap (Bor (List ℕ)) (Bor ProjectValue) → Pick
    → List StepValue
found_steps state table pick =
    option_map_or (λ entry. step_for pick entry (found table entry.name) ∷ [])
    (entry_at pick.id state.entries) []

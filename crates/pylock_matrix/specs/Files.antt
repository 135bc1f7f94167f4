-- The files that the targets of a matrix take, each once. A file is named by the pick of a plan
-- that takes it; a checkout and a directory are named so too.
use Rattle.std.specs.Prelude.{ℕ, ◌==◌, ◌&&◌, Bool, true, false, List, [], filter, map}
use Rattle.std.specs.List.{flat_map, list_any}
use Rattle.std.specs.Option.{option_map_or}
use Rattle.pylock_core.specs.Session.Picks.{sources}
use Rattle.pylock_core.specs.Session.State.{State, entry_at}
use Rattle.pylock_core.specs.Session.Steps.{answer}
use Rattle.pylock_core.specs.declared.answer.Answer.{Answer}
use Rattle.pylock_core.specs.declared.answer.Answer.TheVariants.{Plan, Fault}
use Rattle.pylock_core.specs.declared.answer.Pick.{Pick}
use Rattle.pylock_core.specs.declared.answer.PickSource.{PickSource}
use Rattle.pylock_core.specs.declared.answer.PickSource.TheVariants as source
use Rattle.pylock_matrix.specs.Cell.{CellValue}
use Rattle.pylock_matrix.specs.Moving.{placed}
use Rattle.pylock_matrix.specs.declared.setting.Setting.{Setting}

-- ---- what an answer takes

-- both name the same source of an entry
abbrev pub is_same_source : PickSource → PickSource → Bool
is_same_source source.Vcs source.Vcs = true
is_same_source source.Directory source.Directory = true
is_same_source source.Archive source.Archive = true
is_same_source (source.Wheel one) (source.Wheel other) = one == other
is_same_source source.Sdist source.Sdist = true
is_same_source one other = false

abbrev pub is_same_pick : Pick → Pick → Bool
is_same_pick one other = one.id == other.id && is_same_source one.source other.source

-- a plan takes its picks, and a fault none
abbrev pub takes : Answer → Pick → Bool
takes (Plan picks) pick = list_any (λ one. is_same_pick one pick) picks
takes (Fault id code) pick = false

-- ---- all files

-- every source of the entry of a number, in the order in which `files` prints them
abbrev pub picks_of : State → ℕ → List Pick
picks_of state number =
    option_map_or (λ entry. map (λ s. record { id = number; source = s.0 }) (sources entry))
    (entry_at number state.entries) []

-- those of each entry
abbrev pub all_picks : State → List Pick
all_picks state = flat_map (λ e. picks_of state e.0) state.entries

-- ---- those that are taken

-- of all files those that some answer takes
abbrev pub taken_by : List Answer → State → List Pick
taken_by answers state =
    filter (λ pick. list_any (λ answer. takes answer pick) answers) (all_picks state)

-- what becomes of the state on each target
abbrev pub answers_on : List Setting → State → List CellValue → List Answer
answers_on settings state cells = map (λ cell. answer (placed cell.target settings state)) cells

-- the files that the targets take
abbrev pub files_on : List Setting → State → List CellValue → List Pick
files_on settings state cells = taken_by (answers_on settings state cells) state

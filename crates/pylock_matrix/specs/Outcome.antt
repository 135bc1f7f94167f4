-- What a row says of an answer.
use Rattle.std.specs.Prelude.{ℕ, Bool, true, false, List, length, map, filter}
use Rattle.pylock_core.specs.declared.answer.Answer.{Answer}
use Rattle.pylock_core.specs.declared.answer.Answer.TheVariants as answer
use Rattle.pylock_core.specs.declared.answer.Pick.{Pick}
use Rattle.pylock_core.specs.declared.answer.PickSource.{PickSource}
use Rattle.pylock_core.specs.declared.answer.PickSource.TheVariants as source
use Rattle.pylock_matrix.specs.declared.outcome.Outcome.{Outcome}
use Rattle.pylock_matrix.specs.declared.outcome.Outcome.TheVariants.{Plan, Fault}

-- whether an entry with this source is built: each source but a wheel is
abbrev pub is_built : PickSource → Bool
is_built (source.Wheel place) = false
is_built source.Vcs = true
is_built source.Directory = true
is_built source.Archive = true
is_built source.Sdist = true

-- the numbers of the entries that are built, in the plan's order
abbrev pub built_in : List Pick → List ℕ
built_in picks = map (λ pick. pick.id) (filter (λ pick. is_built pick.source) picks)

-- how many entries are in the plan, and which of them are built; or the fault
abbrev pub outcome_of : Answer → Outcome
outcome_of (answer.Plan picks) = Plan (length picks) (built_in picks)
outcome_of (answer.Fault id code) = Fault id code

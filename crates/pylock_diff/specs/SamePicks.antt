-- When two states have the same picks, whatever the numbers and the order of their entries.
use Rattle.std.specs.Prelude.{◌≡◌, Bool, true, false, List, [], ◌∷◌, map, Option, option_map, ⊤}
use Rattle.std.specs.List.Sorted.{IsPermutation}
use Rattle.std.specs.Result.{result_unwrap_or}
use Rattle.pylock_readers.specs.Entry.{EntryValue}
use Rattle.pylock_core.specs.Session.Picks.{SourceValue, source_in}
use Rattle.pylock_core.specs.Session.State.{NumbersRise, State, apply, entry_at}
use Rattle.pylock_core.specs.Session.Steps.{answer}
use Rattle.pylock_core.specs.declared.answer.Answer.{Answer}
use Rattle.pylock_core.specs.declared.answer.Answer.TheVariants.{Plan, Fault}
use Rattle.pylock_core.specs.declared.answer.Pick.{Pick}
use Rattle.pylock_core.specs.declared.answer.PickSource.{PickSource}
use Rattle.pylock_core.specs.declared.edit.Edit.{Edit}
use Rattle.pylock_core.specs.declared.edit.Edit.TheVariants as edit

-- ---- picks without their numbers

-- what is picked: the entry, which of its sources, and what the entry says of that one
pub record PickedValue : Type 0 where
  pub entry : EntryValue
  pub source : PickSource
  pub value : Option SourceValue

-- what a pick of a plan names in its state: its number is that of an entry there
abbrev pub picked_in : State → Pick → Option PickedValue
picked_in state pick =
    option_map
    (λ entry. record { entry = entry; source = pick.source; value = source_in entry pick.source })
    (entry_at pick.id state.entries)

abbrev pub all_picked : State → List Pick → List (Option PickedValue)
all_picked state picks = map (picked_in state) picks

-- two plans of the same picks in any order; or two faults, which may differ, since the order of the
-- entries says which of several faults is told
abbrev pub HaveSamePicks : State → Answer → State → Answer → Type 0
HaveSamePicks one (Plan picks) other (Plan others) =
    IsPermutation (all_picked one picks) (all_picked other others)
HaveSamePicks one (Fault id code) other (Fault other_id other_code) = ⊤
HaveSamePicks one (Plan picks) other (Fault id code) = ⊥
HaveSamePicks one (Fault id code) other (Plan picks) = ⊥

abbrev pub PickSame : State → State → Type 0
PickSame one other = HaveSamePicks one (answer one) other (answer other)

-- ---- the states that are compared

-- states of the same entries, in any order and under any numbers that increase, as in each session,
-- that are judged by the same
pub record AreAlike (one other : State) : Type 0 where
  pub head : one.head ≡ other.head
  pub entries : IsPermutation (map (λ e. e.1) one.entries) (map (λ e. e.1) other.entries)
  pub environment : one.environment ≡ other.environment
  pub tags : one.tags ≡ other.tags
  pub policies : one.policies ≡ other.policies
  pub one_rises : NumbersRise one
  pub other_rises : NumbersRise other

-- an edit of what the entries are judged by: extras, groups, a variable, the tags or a policy
abbrev pub leaves_entries : Edit → Bool
leaves_entries (edit.Environment change) = true
leaves_entries (edit.Names change names) = true
leaves_entries (edit.Tags tags) = true
leaves_entries (edit.Policy name policy) = true
leaves_entries (edit.Policies names policy) = true
leaves_entries (edit.Add entry) = false
leaves_entries (edit.Put n entry) = false
leaves_entries (edit.Del n) = false

-- the state after edits in turn, where a refused one changes nothing
abbrev pub after_edits : List Edit → State → State
after_edits [] state = state
after_edits (edit ∷ edits) state = after_edits edits (result_unwrap_or (apply edit state) state)

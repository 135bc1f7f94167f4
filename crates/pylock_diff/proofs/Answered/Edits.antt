-- Edits that leave the entries of a state as they are.
use Rattle.std.proofs.Common.{◌≡◌, ◌∙◌, ℕ, Bool, true, false, ◌||◌, cond, List, [], ◌∷◌, Result, Ok, Err, refl, ap, subst}
use Rattle.std.proofs.lemmas.Bool.{false≢true}
use Rattle.std.specs.List.{AllByRecursion}
use Rattle.std.specs.Result.{result_unwrap_or}
use Rattle.pytext.specs.Results.{◌>>=◌}
use Rattle.pymark_core.specs.Change.{changed}
use Rattle.pymark_core.specs.declared.change.Change.{Change}
use Rattle.pymark_core.specs.declared.change.Change.TheVariants as change
use Rattle.pylock_readers.specs.Entry.{EntryValue}
use Rattle.pylock_core.specs.Session.Names.{name_change}
use Rattle.pylock_core.specs.Session.State.{State, after_change, after_names, apply, in_environment, is_among}
use Rattle.pylock_core.specs.declared.edit.Edit.{Edit}
use Rattle.pylock_core.specs.declared.edit.Edit.TheVariants as edit
use Rattle.pylock_core.specs.declared.edit.EditError.{EditError}
use Rattle.pylock_core.specs.declared.edit.EditError.TheVariants.{UnknownExtra, UnknownGroup}
use Rattle.pylock_core.specs.declared.edit.NameChange.{NameChange}
use Rattle.pylock_diff.specs.SamePicks.{AreAlike, PickSame, after_edits, leaves_entries}
use Rattle.pylock_diff.proofs.Answered.Steps.{others_pick_same, with_others}

-- ---- states that are alike

pub alike_pick_same : (one other : State) → AreAlike one other → PickSame one other
alike_pick_same one other alike =
    subst (PickSame one) is (others_pick_same one other.entries other.last alike.one_rises alike.other_rises alike.entries)
  where
    is : with_others one other.entries other.last ≡ other
    is = λ i. record {
      head = alike.head i;
      entries = other.entries;
      last = other.last;
      environment = alike.environment i;
      tags = alike.tags i;
      policies = alike.policies i;
    }

-- ---- one edit

abbrev edited : Edit → State → State
edited e state = result_unwrap_or (apply e state) state

-- the edits that count
abbrev AllLeave : List Edit → Type 0
AllLeave = AllByRecursion (λ e. leaves_entries e ≡ true)

-- what an edit makes of the state, with other entries
abbrev others_in : Result State EditError → List (ℕ × EntryValue) → ℕ → Result State EditError
others_in (Ok state) es last = Ok (with_others state es last)
others_in (Err error) es last = Err error

-- a change of a name, where a test accepts or refuses it
named : (b : Bool) (error : EditError) (next : State) (es : List (ℕ × EntryValue)) (last : ℕ)
    → cond b (Ok (with_others next es last)) (Err error) ≡ others_in (cond b (Ok next) (Err error)) es last
named true error next es last = refl
named false error next es last = refl

change_kept : (c : Change) (state : State) (es : List (ℕ × EntryValue)) (last : ℕ) → after_change c (with_others state es last) ≡ others_in (after_change c state) es last
change_kept (change.Set variable text) state es last = refl
change_kept (change.Unset variable) state es last = refl
change_kept (change.AddExtra name) state es last =
    named (is_among state.head.extras name) UnknownExtra (in_environment (changed (change.AddExtra name) state.environment) state) es last
change_kept (change.DropExtra name) state es last =
    named (is_among state.head.extras name) UnknownExtra (in_environment (changed (change.DropExtra name) state.environment) state) es last
change_kept (change.AddGroup name) state es last =
    named (is_among state.head.groups name || is_among state.head.default_groups name) UnknownGroup (in_environment (changed (change.AddGroup name) state.environment) state) es last
change_kept (change.DropGroup name) state es last =
    named (is_among state.head.groups name || is_among state.head.default_groups name) UnknownGroup (in_environment (changed (change.DropGroup name) state.environment) state) es last

then_kept : (r : Result State EditError) (f : State → Result State EditError) (es : List (ℕ × EntryValue)) (last : ℕ)
    → ((s : State) → f (with_others s es last) ≡ others_in (f s) es last) → (others_in r es last >>= f) ≡ others_in (r >>= f) es last
then_kept (Ok s) f es last same = same s
then_kept (Err error) f es last same = refl

names_kept : (change : NameChange) (names : List (List ℕ)) (state : State) (es : List (ℕ × EntryValue)) (last : ℕ)
    → after_names change names (with_others state es last) ≡ others_in (after_names change names state) es last
names_kept change [] state es last = refl
names_kept change (name ∷ names) state es last =
    ap (λ (r : Result State EditError). r >>= after_names change names) (change_kept (name_change change name) state es last)
    ∙ then_kept (after_change (name_change change name) state) (after_names change names) es last (λ s. names_kept change names s es last)

unwrapped : (r : Result State EditError) (state : State) (es : List (ℕ × EntryValue)) (last : ℕ)
    → result_unwrap_or (others_in r es last) (with_others state es last) ≡ with_others (result_unwrap_or r state) es last
unwrapped (Ok s) state es last = refl
unwrapped (Err error) state es last = refl

-- an edit that makes the same of both leaves the same
left_same : (r : Result State EditError) (one : Result State EditError) (state : State) (es : List (ℕ × EntryValue)) (last : ℕ)
    → r ≡ others_in one es last → result_unwrap_or r (with_others state es last) ≡ with_others (result_unwrap_or one state) es last
left_same r one state es last is = ap (λ (r : Result State EditError). result_unwrap_or r (with_others state es last)) is ∙ unwrapped one state es last

kept : (e : Edit) → leaves_entries e ≡ true → (state : State) (es : List (ℕ × EntryValue)) (last : ℕ) → edited e (with_others state es last) ≡ with_others (edited e state) es last
kept (edit.Environment change) is state es last = left_same _ (after_change change state) state es last (change_kept change state es last)
kept (edit.Names change names) is state es last = left_same _ (after_names change names.items state) state es last (names_kept change names.items state es last)
kept (edit.Tags tags) is state es last = refl
kept (edit.Policy name policy) is state es last = refl
kept (edit.Policies names policy) is state es last = refl
kept (edit.Add entry) is state es last = absurd (false≢true is)
kept (edit.Put n entry) is state es last = absurd (false≢true is)
kept (edit.Del n) is state es last = absurd (false≢true is)

-- ---- all edits

pub all_kept : (edits : List Edit) → AllLeave edits → (state : State) (es : List (ℕ × EntryValue)) (last : ℕ) → after_edits edits (with_others state es last) ≡ with_others (after_edits edits state) es last
all_kept [] leave state es last = refl
all_kept (e ∷ edits) leave state es last = ap (after_edits edits) (kept e leave.0 state es last) ∙ all_kept edits leave.1 (edited e state) es last

pub entries_stay : (edits : List Edit) → AllLeave edits → (state : State) → (after_edits edits state).entries ≡ state.entries
entries_stay edits leave state = ap (λ (s : State). s.entries) (all_kept edits leave state state.entries state.last)

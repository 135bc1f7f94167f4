use Rattle.std.proofs.Common.{◌≡◌, ℕ, List, [], ◌∷◌, Bool, true, false, cond, Ok, Err}
use Rattle.pytext.proofs.NeverLemmas.{Never, never_then}
use Rattle.pymark_core.specs.declared.change.Change.{Change}
use Rattle.pymark_core.specs.declared.change.Change.TheVariants as change
use Rattle.pylock_core.specs.Session.Names.{name_change}
use Rattle.pylock_core.specs.Session.State.{State, after_change, after_names, apply, if_named}
use Rattle.pylock_core.specs.declared.edit.Edit.{Edit}
use Rattle.pylock_core.specs.declared.edit.Edit.TheVariants as edit
use Rattle.pylock_core.specs.declared.edit.EditError.{EditError}
use Rattle.pylock_core.specs.declared.edit.NameChange.{NameChange}
use Rattle.pylock_core.specs.declared.edit.EditError.TheVariants.{Memory, NoEntry, TooMany, UnknownExtra, UnknownGroup}
use Rattle.pylock_core.proofs.laws.answers_are_never_out_of_memory.Goals as goal

tested : (b : Bool) (next : State) (refusal : EditError) → (refusal ≡ Memory → ⊥) → Never Memory (cond b (Ok next) (Err refusal))
tested true next refusal other = λ e. cc e
tested false next refusal other = λ e. other cc

change_wants_none : (change : Change) (state next : State) → Never Memory (if_named change state next)
change_wants_none (change.Set variable text) state next = λ e. cc e
change_wants_none (change.Unset variable) state next = λ e. cc e
change_wants_none (change.AddExtra name) state next = tested _ _ UnknownExtra (λ e. cc e)
change_wants_none (change.DropExtra name) state next = tested _ _ UnknownExtra (λ e. cc e)
change_wants_none (change.AddGroup name) state next = tested _ _ UnknownGroup (λ e. cc e)
change_wants_none (change.DropGroup name) state next = tested _ _ UnknownGroup (λ e. cc e)

names_want_none : (change : NameChange) (names : List (List ℕ)) (state : State) → Never Memory (after_names change names state)
names_want_none change [] state = λ e. cc e
names_want_none change (name ∷ names) state =
    never_then Memory (after_change (name_change change name) state) (after_names change names) (change_wants_none (name_change change name) state _) (names_want_none change names)

edit_wants_none : (edit : Edit) (state : State) → Never Memory (apply edit state)
edit_wants_none (edit.Environment change) state = change_wants_none change state _
edit_wants_none (edit.Names change names) state = names_want_none change names.items state
edit_wants_none (edit.Tags tags) state = λ e. cc e
edit_wants_none (edit.Add entry) state = tested _ _ TooMany (λ e. cc e)
edit_wants_none (edit.Put n entry) state = tested _ _ NoEntry (λ e. cc e)
edit_wants_none (edit.Del n) state = tested _ _ NoEntry (λ e. cc e)
edit_wants_none (edit.Policy name policy) state = λ e. cc e
edit_wants_none (edit.Policies names policy) state = λ e. cc e

pub returns : goal.returns
returns c = edit_wants_none

-- An edit of several names is the edits of each, one after another.
use Rattle.std.proofs.Common.{◌≡◌, ◌∙◌, ℕ, List, [], ◌∷◌, Result, Ok, Err, map, refl, sym}
use Rattle.pytext.specs.Results.{◌>>=◌}
use Rattle.pylock_readers.specs.Entry.{EntryValue}
use Rattle.pylock_core.specs.Session.Names.{name_change}
use Rattle.pylock_core.specs.Session.State.{State, after_change, after_edits, after_names, apply, in_turn, with_policies, with_policy}
use Rattle.pylock_core.specs.declared.edit.Edit.{Edit}
use Rattle.pylock_core.specs.declared.edit.Edit.TheVariants as edit
use Rattle.pylock_core.specs.declared.edit.EditError.{EditError}
use Rattle.pylock_core.specs.declared.edit.NameChange.{NameChange}
use Rattle.pylock_core.specs.declared.edit.Policy.{Policy}

then_same : (f g : State → Result State EditError) (next : Result State EditError) → ((state : State) → f state ≡ g state) → (next >>= f) ≡ (next >>= g)
then_same f g (Ok state) same = same state
then_same f g (Err error) same = refl

one_alone : (next : Result State EditError) → next ≡ (next >>= after_edits [])
one_alone (Ok state) = refl
one_alone (Err error) = refl

names_made : (change : NameChange) (names : List (List ℕ)) (state : State)
    → after_names change names state ≡ after_edits (map (λ name. edit.Environment (name_change change name)) names) state
names_made change [] state = refl
names_made change (name ∷ names) state =
    then_same (after_names change names) (after_edits (map (λ name. edit.Environment (name_change change name)) names))
    (after_change (name_change change name) state) (names_made change names)

policies_made : (policy : Policy) (names : List (List ℕ)) (state : State)
    → Ok (record state { policies = with_policies state.policies names policy }) ≡ after_edits (map (λ name. edit.Policy name policy) names) state
policies_made policy [] state = refl
policies_made policy (name ∷ names) state = policies_made policy names (record state { policies = with_policy state.policies name policy })

pub made_in_turn : (e : Edit) (state : State) → apply e state ≡ after_edits (in_turn e) state
made_in_turn (edit.Environment change) state = one_alone (apply (edit.Environment change) state)
made_in_turn (edit.Names change names) state = names_made change names.items state
made_in_turn (edit.Tags tags) state = one_alone (apply (edit.Tags tags) state)
made_in_turn (edit.Add entry) state = one_alone (apply (edit.Add entry) state)
made_in_turn (edit.Put n entry) state = one_alone (apply (edit.Put n entry) state)
made_in_turn (edit.Del n) state = one_alone (apply (edit.Del n) state)
made_in_turn (edit.Policy name policy) state = one_alone (apply (edit.Policy name policy) state)
made_in_turn (edit.Policies names policy) state = policies_made policy names.items state

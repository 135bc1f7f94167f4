-- An edit after a move is the move after the edit.
use Rattle.std.proofs.Common.{◌≡◌, ◌∙◌, ◌++◌, ℕ, Bool, true, false, ◌&&◌, List, [], ◌∷◌, Result, Ok, Err, ap, append_assoc, if◌then◌else◌, refl, subst, sym}
use Rattle.std.proofs.lemmas.List.{append-nil}
use Rattle.std.specs.List.{list_all}
use Rattle.pytext.specs.Results.{◌>>=◌}
use Rattle.pymark_core.specs.Change.{changed}
use Rattle.pymark_core.specs.Environment.{EnvironmentValue, with_variable}
use Rattle.pymark_core.specs.declared.change.Change.TheVariants as change
use Rattle.pywheel_core.specs.Target.Tags.{target_tags}
use Rattle.pywheel_core.specs.Target.Value.{TargetValue}
use Rattle.pylock_readers.specs.Lock.{LockValue}
use Rattle.pylock_readers.specs.Target.{target_environment}
use Rattle.pylock_core.specs.Session.Names.{name_change}
use Rattle.pylock_core.specs.Session.State.{State, after_change, after_edits, after_names, apply, in_environment}
use Rattle.pylock_core.specs.declared.edit.Edit.{Edit}
use Rattle.pylock_core.specs.declared.edit.Edit.TheVariants as edit
use Rattle.pylock_core.specs.declared.edit.EditError.{EditError}
use Rattle.pylock_core.specs.declared.edit.NameChange.{NameChange}
use Rattle.pylock_core.specs.declared.edit.NameChange.TheVariants.{AddExtra, DropExtra, AddGroup, DropGroup}
use Rattle.pylock_matrix.specs.Moving.{first_on, is_movable, placed, placed_if, settings_in, settings_of, with_settings}
use Rattle.pylock_matrix.specs.declared.setting.Setting.{Setting}
use Rattle.pylock_matrix.proofs.MovingLemmas.{first_placed}

-- an edit that may be refused, by a test that no move changes
chosen : (target : TargetValue) (settings : List Setting) (test : Bool) (next : State) (error : EditError)
    → (if test then Ok (placed target settings next) else Err error) ≡ placed_if target settings (if test then Ok next else Err error)
chosen target settings true next error = refl
chosen target settings false next error = refl

-- one step after another
stepped : (target : TargetValue) (settings : List Setting) (f : State → Result State EditError) (edited : Result State EditError)
    → ((state : State) → f (placed target settings state) ≡ placed_if target settings (f state))
    → (placed_if target settings edited >>= f) ≡ placed_if target settings (edited >>= f)
stepped target settings f (Ok state) moves = moves state
stepped target settings f (Err error) moves = refl

-- the settings with none behind them
with_none : (target : TargetValue) (settings : List Setting) (after edited : Result State EditError)
    → after ≡ placed_if target settings edited → after ≡ placed_if target (settings ++ []) edited
with_none target settings after edited same = subst (λ (ss : List Setting). after ≡ placed_if target ss edited) (sym (append-nil settings)) same

name_moved : (target : TargetValue) (settings : List Setting) (c : NameChange) (name : List ℕ) (state : State)
    → after_change (name_change c name) (placed target settings state) ≡ placed_if target settings (after_change (name_change c name) state)
name_moved target settings AddExtra name state = chosen target settings _ (in_environment (changed (change.AddExtra name) state.environment) state) _
name_moved target settings DropExtra name state = chosen target settings _ (in_environment (changed (change.DropExtra name) state.environment) state) _
name_moved target settings AddGroup name state = chosen target settings _ (in_environment (changed (change.AddGroup name) state.environment) state) _
name_moved target settings DropGroup name state = chosen target settings _ (in_environment (changed (change.DropGroup name) state.environment) state) _

names_moved : (target : TargetValue) (settings : List Setting) (c : NameChange) (names : List (List ℕ)) (state : State)
    → after_names c names (placed target settings state) ≡ placed_if target settings (after_names c names state)
names_moved target settings c [] state = refl
names_moved target settings c (name ∷ names) state =
    ap (λ (r : Result State EditError). r >>= after_names c names) (name_moved target settings c name state)
    ∙ stepped target settings (after_names c names) (after_change (name_change c name) state) (names_moved target settings c names)

settings_end : (settings : List Setting) (setting : Setting) (e : EnvironmentValue)
    → with_settings (settings ++ setting ∷ []) e ≡ with_variable setting.variable setting.text (with_settings settings e)
settings_end [] setting e = refl
settings_end (s ∷ ss) setting e = settings_end ss setting (with_variable s.variable s.text e)

pub edit_moved : (e : Edit) (target : TargetValue) (settings : List Setting) (state : State) → is_movable e ≡ true
    → apply e (placed target settings state) ≡ placed_if target (settings ++ settings_in e) (apply e state)
edit_moved (edit.Environment (change.Set variable text)) target settings state movable =
    let setting : Setting = record { variable = variable; text = text } in
    ap (λ (e : EnvironmentValue). Ok (record state { environment = record state.environment { variables = e.variables }; tags = target_tags target }))
    (sym (settings_end settings setting (target_environment target)))
edit_moved (edit.Environment (change.Unset variable)) target settings state movable = absurd (cc)
edit_moved (edit.Environment (change.AddExtra name)) target settings state movable = with_none target settings _ _ (name_moved target settings AddExtra name state)
edit_moved (edit.Environment (change.DropExtra name)) target settings state movable = with_none target settings _ _ (name_moved target settings DropExtra name state)
edit_moved (edit.Environment (change.AddGroup name)) target settings state movable = with_none target settings _ _ (name_moved target settings AddGroup name state)
edit_moved (edit.Environment (change.DropGroup name)) target settings state movable = with_none target settings _ _ (name_moved target settings DropGroup name state)
edit_moved (edit.Names c names) target settings state movable = with_none target settings _ _ (names_moved target settings c names.items state)
edit_moved (edit.Tags tags) target settings state movable = absurd (cc)
edit_moved (edit.Add entry) target settings state movable = with_none target settings _ _ (chosen target settings _ _ _)
edit_moved (edit.Put n entry) target settings state movable = with_none target settings _ _ (chosen target settings _ _ _)
edit_moved (edit.Del n) target settings state movable = with_none target settings _ _ (chosen target settings _ _ _)
edit_moved (edit.Policy name policy) target settings state movable = with_none target settings _ (apply (edit.Policy name policy) state) refl
edit_moved (edit.Policies names policy) target settings state movable = with_none target settings _ (apply (edit.Policies names policy) state) refl

both : (a b : Bool) → (a && b) ≡ true → (a ≡ true) × (b ≡ true)
both true b holds = (refl, holds)
both false b holds = absurd (cc)

-- edits after one that was made, or its refusal
behind : (edits : List Edit) (target : TargetValue) (settings more : List Setting) (edited : Result State EditError)
    → ((state : State) → after_edits edits (placed target (settings ++ more) state) ≡ placed_if target ((settings ++ more) ++ settings_of edits) (after_edits edits state))
    → (placed_if target (settings ++ more) edited >>= after_edits edits) ≡ placed_if target (settings ++ (more ++ settings_of edits)) (edited >>= after_edits edits)
behind edits target settings more (Ok state) moves =
    moves state ∙ ap (λ (ss : List Setting). placed_if target ss (after_edits edits state)) (append_assoc settings more (settings_of edits))
behind edits target settings more (Err error) moves = refl

pub edits_moved : (edits : List Edit) (target : TargetValue) (settings : List Setting) (state : State) → list_all is_movable edits ≡ true
    → after_edits edits (placed target settings state) ≡ placed_if target (settings ++ settings_of edits) (after_edits edits state)
edits_moved [] target settings state movable = with_none target settings _ (Ok state) refl
edits_moved (e ∷ es) target settings state movable =
    let each = both (is_movable e) (list_all is_movable es) movable in
    ap (λ (r : Result State EditError). r >>= after_edits es) (edit_moved e target settings state each.0)
    ∙ behind es target settings (settings_in e) (apply e state) (λ (s : State). edits_moved es target (settings ++ settings_in e) s each.1)

pub opened_moved : (edits : List Edit) (target other : TargetValue) (lock : LockValue) → list_all is_movable edits ≡ true
    → after_edits edits (first_on target lock) ≡ placed_if target (settings_of edits) (after_edits edits (first_on other lock))
opened_moved edits target other lock movable =
    ap (after_edits edits) (first_placed target lock (target_environment other) (target_tags other))
    ∙ edits_moved edits target [] (first_on other lock) movable

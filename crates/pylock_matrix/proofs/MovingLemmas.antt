-- A move gives each of the eleven variables its text, and the state on a target is what it gives.
use Rattle.std.proofs.Common.{◌≡◌, ◌∙◌, ℕ, List, [], ◌∷◌, Option, Some, Result, Ok, Err, OnErr, OnOk, ap, arith, length, refl, sym}
use Rattle.std.proofs.lemmas.List.{length-set}
use Rattle.std.specs.FinSet as set
use Rattle.pyver_core.specs.Name.{normal_name}
use Rattle.pymark_core.specs.Environment.{EnvironmentValue, Texts, with_variable}
use Rattle.pymark_core.specs.Variables.{variable_number, variables}
use Rattle.pywheel_core.specs.Tag.{TagValue}
use Rattle.pywheel_core.specs.Target.Tags.{target_tags}
use Rattle.pywheel_core.specs.Target.Value.{TargetValue}
use Rattle.pylock_readers.specs.Lock.{LockValue}
use Rattle.pylock_readers.specs.Target.{target_environment}
use Rattle.pylock_core.specs.Session.Judgement.{SessionValue}
use Rattle.pylock_core.specs.Session.State.{State, apply, first, in_environment, with_groups}
use Rattle.pylock_core.specs.declared.edit.Edit.TheVariants as edit
use Rattle.pylock_matrix.specs.Inner.Moving.{with_texts_of}
use Rattle.pylock_matrix.specs.Moving.{HasVariables, first_on, placed, unmoved, variables_on, with_settings}
use Rattle.pylock_matrix.specs.declared.setting.Setting.{Setting}

-- ---- eleven variables

settings_length : (settings : List Setting) (e : EnvironmentValue) → length (with_settings settings e).variables ≡ length e.variables
settings_length [] e = refl
settings_length (s ∷ ss) e = settings_length ss (with_variable s.variable s.text e) ∙ length-set e.variables (variable_number s.variable) (Some s.text)

target_length : (target : TargetValue) → length (target_environment target).variables ≡ 11
unfolding target_environment
target_length target = refl

pub wanted_length : (target : TargetValue) (settings : List Setting) → length (variables_on target settings) ≡ 11
wanted_length target settings = settings_length settings (target_environment target) ∙ target_length target

pub placed_has : (target : TargetValue) (settings : List Setting) (state : State) → HasVariables (placed target settings state)
placed_has target settings state = wanted_length target settings

-- what holds of every list of eleven holds of a list with that length
eleven : {X : Type 0} (P : List X → Type 0) → ((a b c d e f g h i j k : X) → P (a ∷ b ∷ c ∷ d ∷ e ∷ f ∷ g ∷ h ∷ i ∷ j ∷ k ∷ [])) → (xs : List X) → length xs ≡ 11 → P xs
eleven P each [] same = absurd (omega arith)
eleven P each (a ∷ []) same = absurd (omega arith)
eleven P each (a ∷ b ∷ []) same = absurd (omega arith)
eleven P each (a ∷ b ∷ c ∷ []) same = absurd (omega arith)
eleven P each (a ∷ b ∷ c ∷ d ∷ []) same = absurd (omega arith)
eleven P each (a ∷ b ∷ c ∷ d ∷ e ∷ []) same = absurd (omega arith)
eleven P each (a ∷ b ∷ c ∷ d ∷ e ∷ f ∷ []) same = absurd (omega arith)
eleven P each (a ∷ b ∷ c ∷ d ∷ e ∷ f ∷ g ∷ []) same = absurd (omega arith)
eleven P each (a ∷ b ∷ c ∷ d ∷ e ∷ f ∷ g ∷ h ∷ []) same = absurd (omega arith)
eleven P each (a ∷ b ∷ c ∷ d ∷ e ∷ f ∷ g ∷ h ∷ i ∷ []) same = absurd (omega arith)
eleven P each (a ∷ b ∷ c ∷ d ∷ e ∷ f ∷ g ∷ h ∷ i ∷ j ∷ []) same = absurd (omega arith)
eleven P each (a ∷ b ∷ c ∷ d ∷ e ∷ f ∷ g ∷ h ∷ i ∷ j ∷ k ∷ []) same = each a b c d e f g h i j k
eleven P each (a ∷ b ∷ c ∷ d ∷ e ∷ f ∷ g ∷ h ∷ i ∷ j ∷ k ∷ l ∷ xs) same = absurd (omega arith)

pub overwritten : (wanted environment : EnvironmentValue) → length environment.variables ≡ 11 → length wanted.variables ≡ 11
    → with_texts_of wanted variables environment ≡ record environment { variables = wanted.variables }
overwritten wanted environment long enough =
    eleven (λ xs. with_texts_of wanted variables (record environment { variables = xs }) ≡ record environment { variables = wanted.variables })
    (λ a b c d e f g h i j k.
    eleven (λ ys. with_texts_of (record wanted { variables = ys }) variables (record environment { variables = a ∷ b ∷ c ∷ d ∷ e ∷ f ∷ g ∷ h ∷ i ∷ j ∷ k ∷ [] }) ≡ record environment { variables = ys })
    (λ a' b' c' d' e' f' g' h' i' j' k'. refl)
    wanted.variables enough)
    environment.variables long

-- ---- a move

pub placed_same : (target : TargetValue) (settings : List Setting) (a b : State) → unmoved a ≡ unmoved b → placed target settings a ≡ placed target settings b
placed_same target settings a b same = ap (placed target settings) same

placed_by : (target : TargetValue) (settings : List Setting) (old : State) (wanted : EnvironmentValue) (tags : List TagValue)
    → wanted ≡ with_settings settings (target_environment target) → tags ≡ target_tags target → HasVariables old
    → record (in_environment (with_texts_of wanted variables old.environment) old) { tags = tags } ≡ placed target settings old
placed_by target settings old wanted tags same listed has =
    let enough : length wanted.variables ≡ 11 = ap (λ (e : EnvironmentValue). length e.variables) same ∙ wanted_length target settings in
    let texts : with_texts_of wanted variables old.environment ≡ record old.environment { variables = wanted.variables } = overwritten wanted old.environment has enough in
    ap (λ (e : EnvironmentValue). record old { environment = e; tags = tags }) texts
    ∙ ap (λ (e : EnvironmentValue). record old { environment = record old.environment { variables = e.variables }; tags = tags }) same
    ∙ ap (λ (ts : List TagValue). record old { environment = record old.environment { variables = variables_on target settings }; tags = ts }) listed

-- the texts were given and then the tags
pub moved : {T E : Type 0} (result : Result T E) (target : TargetValue) (settings : List Setting) (old set new : State) (wanted : EnvironmentValue) (tags : List TagValue)
    → ◌≡◌ {A = EnvironmentValue × List TagValue} (wanted, tags) (with_settings settings (target_environment target), target_tags target)
    → set ≡ in_environment (with_texts_of wanted variables old.environment) old → HasVariables old
    → OnOk result (apply (edit.Tags tags) set ≡ Ok new) → OnOk result (new ≡ placed target settings old)
moved (Ok x) target settings old set new wanted tags machine given has made =
    let tagged : record set { tags = tags } ≡ new = cc in
    sym tagged
    ∙ ap (λ (s : State). record s { tags = tags }) given
    ∙ placed_by target settings old wanted tags (ap (λ (m : EnvironmentValue × List TagValue). m.0) machine) (ap (λ (m : EnvironmentValue × List TagValue). m.1) machine) has
moved (Err e) target settings old set new wanted tags machine given has made = tt

pub has_after : {T E : Type 0} (result : Result T E) (target : TargetValue) (settings : List Setting) (old new : State)
    → new ≡ placed target settings old → OnOk result (HasVariables new)
has_after (Ok x) target settings old new same = ap (λ (s : State). length s.environment.variables) same ∙ placed_has target settings old
has_after (Err e) target settings old new same = tt

-- the tags are no part of what stays
pub stayed : {T E : Type 0} (result : Result T E) (tags : List TagValue) (old : State) (set new : SessionValue)
    → unmoved set.state ≡ unmoved old → OnOk result (apply (edit.Tags tags) set.state ≡ Ok new.state) → OnErr result (new ≡ set) → unmoved new.state ≡ unmoved old
stayed (Ok x) tags old set new stays made kept =
    let tagged : record set.state { tags = tags } ≡ new.state = cc in
    sym (ap unmoved tagged) ∙ stays
stayed (Err e) tags old set new stays made kept = ap (λ (v : SessionValue). unmoved v.state) kept ∙ stays

-- ---- the beginning

groups_asked : (names : List (List ℕ)) (vs ws : List (Option (List ℕ))) (extras groups : Texts)
    → with_groups names (record { variables = vs; extras = extras; groups = groups })
    ≡ record (with_groups names (record { variables = ws; extras = extras; groups = groups })) { variables = vs }
groups_asked [] vs ws extras groups = refl
groups_asked (name ∷ names) vs ws extras groups = groups_asked names vs ws extras (set.insert groups (normal_name name))

pub first_placed : (target : TargetValue) (lock : LockValue) (environment : EnvironmentValue) (tags : List TagValue)
    → first_on target lock ≡ placed target [] (first lock environment tags)
first_placed target lock environment tags =
    ap (λ (e : EnvironmentValue). record (first_on target lock) { environment = e })
    (groups_asked lock.head.default_groups (target_environment target).variables environment.variables set.empty set.empty)

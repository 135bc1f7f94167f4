-- What the steps pick of a state, by what each entry comes to by itself.
use Rattle.std.proofs.Common.{◌≡◌, ℕ, ◌≤◌, ◌+◌, Bool, true, false, cond, List, [], ◌∷◌, map, Option, Some, None, option_map, Result, Ok, Err, refl, sym, subst, arith, eq-eqb, IsPermutation}
use Rattle.std.specs.Prelude.{⊤}
use Rattle.std.specs.List.{AllByRecursion}
use Rattle.std.proofs.lemmas.Bool.{ne_eqb}
use Rattle.std.proofs.lemmas.List.Sorted.{IsPermutation-map}
use Rattle.pylock_readers.specs.Entry.{EntryValue}
use Rattle.pylock_readers.specs.Entry.Kinds.{has_conflict}
use Rattle.pylock_core.specs.Session.Picks.{source_in}
use Rattle.pylock_core.specs.Session.State.{NumbersRise, Rises, State, entry_at, is_among, policy_of}
use Rattle.pylock_core.specs.Session.Steps.{FirstFault, answer_after, answer_by, by_standing, head_fault, pick_before, picks, picks_after, put_before, slate, source_of, standing}
use Rattle.pylock_core.specs.declared.answer.FaultCode.{FaultCode}
use Rattle.pylock_core.specs.declared.answer.FaultCode.TheVariants.{Ambiguous, Sources}
use Rattle.pylock_core.specs.declared.answer.Pick.{Pick}
use Rattle.pylock_core.specs.declared.answer.PickSource.{PickSource}
use Rattle.pylock_core.specs.declared.answer.Standing.{Standing}
use Rattle.pylock_core.specs.declared.answer.Standing.TheVariants.{Skipped, Faulty, Active}
use Rattle.pylock_diff.specs.SamePicks.{HaveSamePicks, PickSame, PickedValue, all_picked}
use Rattle.pylock_diff.proofs.Answered.Plain.{Alike, Turn, Pass, Stop, Take, by_turn, made, made_moved}

abbrev Entries : Type 0
Entries = List (ℕ × EntryValue)

-- ---- the entry of a number

above : (n : ℕ) (es : Entries) → Rises n (map (λ e. e.0) es) → (m : ℕ) → m ≤ n → AllByRecursion (λ e. m ≤ e.0) es
above n [] rises m less = tt
above n (e ∷ es) rises m less = (omega (arith, rises.0, less), above (e.0 + 1) es rises.1 m (omega (arith, rises.0, less)))

abbrev StandsIn : Entries → ℕ × EntryValue → Type 0
StandsIn all e = entry_at e.0 all ≡ Some e.1

behind : (first : ℕ × EntryValue) (all es : Entries) → AllByRecursion (λ e. first.0 + 1 ≤ e.0) es → AllByRecursion (StandsIn all) es → AllByRecursion (StandsIn (first ∷ all)) es
behind first all [] more there = tt
behind first all (e ∷ es) more there =
    let other = ne_eqb e.0 first.0 (λ same. omega (arith, same, more.0)) in
    (rw other there.0, behind first all es more.1 there.1)

pub stand_there : (n : ℕ) (es : Entries) → Rises n (map (λ e. e.0) es) → AllByRecursion (StandsIn es) es
stand_there n [] rises = tt
stand_there n (e ∷ es) rises = (
  rw (eq-eqb e.0 e.0 refl) refl,
  behind e es es (above (e.0 + 1) es rises.1 (e.0 + 1) (omega arith)) (stand_there (e.0 + 1) es rises.1),
)

-- ---- what an entry comes to

abbrev picked_of : EntryValue → PickSource → PickedValue
picked_of entry source = record { entry = entry; source = source; value = source_in entry source }

abbrev sourced : EntryValue → Option PickSource → Turn PickedValue
sourced entry None = Stop
sourced entry (Some source) = Take (picked_of entry source)

abbrev source : State → EntryValue → Option PickSource
source state entry = source_of entry state.tags (policy_of state.policies entry.name)

abbrev pub own_turn : State → EntryValue → Turn PickedValue
own_turn state entry = by_standing (standing entry state.environment) Pass (λ code. Stop) (cond (has_conflict entry) Stop (sourced entry (source state entry)))

module _ (state : State) where
  -- the picks are those that were made of the entries by themselves
  abbrev pub Meets : Result (List Pick) FirstFault → Option (List PickedValue) → Type 0
  Meets (Ok plan) (Some picked) = all_picked state plan ≡ map Some picked
  Meets (Err fault) None = ⊤
  Meets (Ok plan) None = ⊥
  Meets (Err fault) (Some picked) = ⊥

  abbrev after : Result Entries FirstFault → Result (List Pick) FirstFault
  after slated = picks_after slated state.tags state.policies

  picked_one : (n : ℕ) (e : EntryValue) → entry_at n state.entries ≡ Some e → (chosen : Option PickSource) (plan : Result (List Pick) FirstFault) (passed later : Option (List PickedValue))
      → Meets plan later → Meets (pick_before n chosen plan) (by_turn (sourced e chosen) false passed later)
  picked_one n e there None plan passed later meets = tt
  picked_one n e there (Some s) (Ok plan) passed (Some picked) meets =
      λ i. option_map (λ (entry : EntryValue). record { entry = entry; source = s; value = source_in entry s }) (there i) ∷ meets i
  picked_one n e there (Some s) (Err fault) passed None meets = tt
  picked_one n e there (Some s) (Ok plan) passed None meets = absurd meets
  picked_one n e there (Some s) (Err fault) passed (Some picked) meets = absurd meets

  -- a fault behind the entry, and one of the entry
  later_fault : (e : EntryValue) (chosen : Option PickSource) (fault : FirstFault) (passed later : Option (List PickedValue)) → Meets (Err fault) later
      → Meets (Err fault) (by_turn (sourced e chosen) false passed later)
  later_fault e None fault passed later meets = tt
  later_fault e (Some s) fault passed None meets = tt
  later_fault e (Some s) fault passed (Some picked) meets = absurd meets

  shared_fault : (e : EntryValue) (chosen : Option PickSource) (fault : FirstFault) (passed later : Option (List PickedValue))
      → Meets (Err fault) (by_turn (sourced e chosen) true passed later)
  shared_fault e None fault passed later = tt
  shared_fault e (Some s) fault passed later = tt

  put : (n : ℕ) (e : EntryValue) → entry_at n state.entries ≡ Some e → (slated : Result Entries FirstFault) (passed later : Option (List PickedValue)) → Meets (after slated) later
      → Meets (after (put_before (n, e) slated)) (by_turn (sourced e (source state e)) false passed later)
  put n e there (Ok es) passed later meets = picked_one n e there (source state e) (picks es state.tags state.policies) passed later meets
  put n e there (Err fault) passed later meets = later_fault e (source state e) fault passed later meets

  turn : (n : ℕ) (e : EntryValue) → entry_at n state.entries ≡ Some e → (s : Standing) (shared conflict : Bool) (skipped slated : Result Entries FirstFault) (passed later : Option (List PickedValue))
      → Meets (after skipped) passed → Meets (after slated) later
      → Meets (after (by_standing s skipped (λ code. Err (n, code)) (cond shared (Err (n, Ambiguous)) (cond conflict (Err (n, Sources)) (put_before (n, e) slated)))))
      (by_turn (by_standing s Pass (λ code. Stop) (cond conflict Stop (sourced e (source state e)))) shared passed later)
  turn n e there Skipped shared conflict skipped slated passed later h k = h
  turn n e there (Faulty code) shared conflict skipped slated passed later h k = tt
  turn n e there Active true true skipped slated passed later h k = tt
  turn n e there Active true false skipped slated passed later h k = shared_fault e (source state e) (n, Ambiguous) passed later
  turn n e there Active false true skipped slated passed later h k = tt
  turn n e there Active false false skipped slated passed later h k = put n e there slated passed later k

  abbrev picked_of_all : Entries → List (List ℕ) → Option (List PickedValue)
  picked_of_all es names = made (λ e. e.name) (own_turn state) (map (λ e. e.1) es) names

  meets : (es : Entries) (names : List (List ℕ)) → AllByRecursion (StandsIn state.entries) es → Meets (after (slate es state.environment names)) (picked_of_all es names)
  meets [] names there = refl
  meets (e ∷ es) names there =
      turn e.0 e.1 there.0 (standing e.1 state.environment) (is_among names e.1.name) (has_conflict e.1)
      (slate es state.environment names) (slate es state.environment (e.1.name ∷ names)) (picked_of_all es names) (picked_of_all es (e.1.name ∷ names))
      (meets es names there.1) (meets es (e.1.name ∷ names) there.1)

  pub steps_meet : NumbersRise state → Meets (after (slate state.entries state.environment [])) (picked_of_all state.entries [])
  steps_meet rises = meets state.entries [] (stand_there 1 state.entries rises)

-- ---- two states that differ in their entries' order and numbers alone

abbrev pub with_others : State → Entries → ℕ → State
with_others state es last = record state { entries = es; last = last }

same_plans : (one other : State) (plan others : Result (List Pick) FirstFault) (u v : Option (List PickedValue)) → Meets one plan u → Meets other others v → Alike u v
    → HaveSamePicks one (answer_by plan) other (answer_by others)
same_plans one other (Ok plan) (Ok others) (Some u) (Some v) h k alike =
    subst (λ l. IsPermutation l (all_picked other others)) (sym h) (subst (IsPermutation (map Some u)) (sym k) (IsPermutation-map Some u v alike))
same_plans one other (Err f) (Err g) None None h k alike = tt
same_plans one other (Ok plan) others None v h k alike = absurd h
same_plans one other (Err f) others (Some u) v h k alike = absurd h
same_plans one other plan (Ok others) u None h k alike = absurd k
same_plans one other plan (Err g) u (Some v) h k alike = absurd k
same_plans one other (Ok plan) (Err g) (Some u) None h k alike = absurd alike
same_plans one other (Err f) (Ok others) None (Some v) h k alike = absurd alike

same_head : (one other : State) (fault : Option FaultCode) (plan others : Result (List Pick) FirstFault) → HaveSamePicks one (answer_by plan) other (answer_by others)
    → HaveSamePicks one (answer_after fault (answer_by plan)) other (answer_after fault (answer_by others))
same_head one other None plan others same = same
same_head one other (Some code) plan others same = tt

pub others_pick_same : (state : State) (es : Entries) (last : ℕ) → NumbersRise state → NumbersRise (with_others state es last) → IsPermutation (map (λ e. e.1) state.entries) (map (λ e. e.1) es)
    → PickSame state (with_others state es last)
others_pick_same state es last rises others_rise moved =
    let other = with_others state es last in
    same_head state other (head_fault state.head state.environment) _ _
    (same_plans state other _ _ _ _ (steps_meet state rises) (steps_meet other others_rise)
    (made_moved (λ e. e.name) (own_turn state) (map (λ e. e.1) state.entries) (map (λ e. e.1) es) moved))

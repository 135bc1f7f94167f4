-- What is left where no option leaves anything out.
use Rattle.std.proofs.Common.{◌≡◌, ◌∙◌, ◌||◌, ◌&&◌, Bool, true, false, List, [], ◌∷◌, Option, Some, None, ap, ap₂, filter, not, refl, subst, sym}
use Rattle.std.specs.List.{list_any}
use Rattle.std.specs.Option.{option_map_or}
use Rattle.pylock_command.specs.declared.option.PlanOption.{PlanOption}
use Rattle.pylock_command.specs.declared.option.PlanOption.TheVariants as option
use Rattle.pylock_core.specs.Session.State.{State, entry_at}
use Rattle.pylock_core.specs.declared.answer.Answer.{Answer}
use Rattle.pylock_core.specs.declared.answer.Answer.TheVariants.{Plan, Fault}
use Rattle.pylock_core.specs.declared.answer.Pick.{Pick}
use Rattle.pylock_readers.specs.Entry.{EntryValue}
use Rattle.pylock_program.specs.Left.{asks_alone, asks_for, is_left, is_left_of, leaves_all, leaves_out, left_answer, narrows}

-- neither asks for packages alone, nor leaves one out
one_alone : (o : PlanOption) → narrows o ≡ false → asks_alone o ≡ false
one_alone option.AllExtras e = refl
one_alone (option.Extra name) e = refl
one_alone option.NoDefaultGroups e = refl
one_alone option.AllGroups e = refl
one_alone (option.Group name) e = refl
one_alone (option.NoGroup name) e = refl
one_alone (option.OnlyBinary name) e = refl
one_alone (option.NoBinary name) e = refl
one_alone (option.Set text) e = refl
one_alone (option.Only name) e = absurd cc
one_alone (option.Except name) e = refl
one_alone option.NoProject e = refl

one_leaves : (entry : EntryValue) (o : PlanOption) → narrows o ≡ false → leaves_out entry o ≡ false
one_leaves entry option.AllExtras e = refl
one_leaves entry (option.Extra name) e = refl
one_leaves entry option.NoDefaultGroups e = refl
one_leaves entry option.AllGroups e = refl
one_leaves entry (option.Group name) e = refl
one_leaves entry (option.NoGroup name) e = refl
one_leaves entry (option.OnlyBinary name) e = refl
one_leaves entry (option.NoBinary name) e = refl
one_leaves entry (option.Set text) e = refl
one_leaves entry (option.Only name) e = refl
one_leaves entry (option.Except name) e = absurd cc
one_leaves entry option.NoProject e = absurd cc

-- of a disjunction that is false both sides are
neither : (a b : Bool) → (a || b) ≡ false → (a ≡ false) × (b ≡ false)
neither true b e = absurd cc
neither false b e = (refl, e)

both : (a b : Bool) → a ≡ false → b ≡ false → (a || b) ≡ false
both a b first second = ap₂ (λ (x y : Bool). x || y) first second

none_of : (f : PlanOption → Bool) → ((o : PlanOption) → narrows o ≡ false → f o ≡ false)
    → (options : List PlanOption) → list_any narrows options ≡ false → list_any f options ≡ false
none_of f each [] e = refl
none_of f each (o ∷ options) e =
    let parts : (narrows o ≡ false) × (list_any narrows options ≡ false) = neither (narrows o) (list_any narrows options) e in
    both (f o) (list_any f options) (each o parts.0) (none_of f each options parts.1)

left_then : (alone wanted out : Bool) → alone ≡ false → out ≡ false → ((not alone || wanted) && not out) ≡ true
left_then alone wanted out first second = ap₂ (λ (a o : Bool). (not a || wanted) && not o) first second

module _ (options : List PlanOption) (state : State) (none : list_any narrows options ≡ false) where
  entry_left : (entry : EntryValue) → is_left options entry ≡ true
  entry_left entry = left_then (list_any asks_alone options) (list_any (asks_for entry) options) (list_any (leaves_out entry) options)
      (none_of asks_alone one_alone options none) (none_of (leaves_out entry) (one_leaves entry) options none)

  at_left : (found : Option EntryValue) → option_map_or (is_left options) found true ≡ true
  at_left (Some entry) = entry_left entry
  at_left None = refl

  picks_left : (picks : List Pick) → filter (is_left_of options state) picks ≡ picks
  picks_left [] = refl
  picks_left (pick ∷ picks) = rw (at_left (entry_at pick.id state.entries)) (ap (λ rest. pick ∷ rest) (picks_left picks))

  answer_left : (answer : Answer) → left_answer options state answer ≡ answer
  answer_left (Plan picks) = ap Plan (picks_left picks)
  answer_left (Fault id code) = refl

not_false : (b : Bool) → not b ≡ true → b ≡ false
not_false true e = absurd cc
not_false false e = refl

pub whole : (options : List PlanOption) (state : State) (answer : Answer) → leaves_all options ≡ true → left_answer options state answer ≡ answer
whole options state answer all = answer_left options state (not_false (list_any narrows options) all) answer

pub ruleset all_left = (whole)

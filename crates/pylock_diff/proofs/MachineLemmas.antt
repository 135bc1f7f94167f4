-- Nothing is told of the plans of two states that have the same picks.
use Rattle.std.proofs.Common.{◌≡◌, ◌∙◌, ◌++◌, ◌+◌, List, [], ◌∷◌, map, None, Option, Some, option_map, IsPermutation, refl, sym, ap, subst}
use Rattle.std.proofs.lemmas.List.{map-append}
use Rattle.std.specs.List.{flat_map}
use Rattle.std.specs.Option.{option_map_or}
use Rattle.pylock_compare.specs.Counts.{count}
use Rattle.pylock_compare.specs.Texts.{Texts}
use Rattle.pylock_readers.specs.Entry.{EntryValue}
use Rattle.pylock_core.specs.Session.Picks.{source_in}
use Rattle.pylock_core.specs.Session.State.{State, entry_at}
use Rattle.pylock_core.specs.Session.Steps.{answer}
use Rattle.pylock_core.specs.declared.answer.Answer.{Answer}
use Rattle.pylock_core.specs.declared.answer.Answer.TheVariants.{Plan, Fault}
use Rattle.pylock_core.specs.declared.answer.Pick.{Pick}
use Rattle.pylock_core.specs.declared.answer.PickSource.{PickSource}
use Rattle.pylock_diff.specs.Changes.{answer_changes}
use Rattle.pylock_diff.specs.Item.{picked_entries}
use Rattle.pylock_diff.specs.SamePicks.{HaveSamePicks, PickSame, PickedValue, all_picked}
use Rattle.pylock_diff.specs.SamePlan.{numberless, pick_value}
use Rattle.pylock_diff.proofs.CountLemmas.{count_joined, counts_permute, total, total_permuted}
use Rattle.pylock_diff.proofs.PlanLemmas.{Picked, answers_same, value_exact, whole_key}

-- what is compared of what a pick names
abbrev compared_in : Option PickedValue → List Picked
compared_in picked = option_map_or (λ p. option_map_or (λ s. (p.entry, s) ∷ []) p.value []) picked []

entry_seen : (name : PickSource) (entry : Option EntryValue)
    → option_map_or (λ e. option_map_or (λ s. (e, s) ∷ []) (source_in e name) []) entry []
    ≡ compared_in (option_map (λ e. record { entry = e; source = name; value = source_in e name }) entry)
entry_seen name None = refl
entry_seen name (Some entry) = refl

entries_seen : (state : State) (picks : List Pick) → picked_entries state picks ≡ flat_map compared_in (all_picked state picks)
entries_seen state [] = refl
entries_seen state (pick ∷ picks) = λ i. entry_seen pick.source (entry_at pick.id state.entries) i ++ entries_seen state picks i

counted_in : (k : Texts) (all : List (Option PickedValue)) → count k (map whole_key (flat_map compared_in all)) ≡ total (λ x. count k (map whole_key (compared_in x))) all
counted_in k [] = refl
counted_in k (x ∷ all) =
    ap (count k) (map-append whole_key (compared_in x) (flat_map compared_in all))
    ∙ count_joined k (map whole_key (compared_in x)) (map whole_key (flat_map compared_in all))
    ∙ ap (λ n. count k (map whole_key (compared_in x)) + n) (counted_in k all)

numberless_moved : (one other : State) (picks others : List Pick) → IsPermutation (all_picked one picks) (all_picked other others) → IsPermutation (numberless one picks) (numberless other others)
numberless_moved one other picks others moved =
    let ps = flat_map compared_in (all_picked one picks) in
    let qs = flat_map compared_in (all_picked other others) in
    let values : IsPermutation (map pick_value ps) (map pick_value qs) = counts_permute whole_key pick_value value_exact ps qs (λ k.
    counted_in k (all_picked one picks) ∙ total_permuted (λ x. count k (map whole_key (compared_in x))) (all_picked one picks) (all_picked other others) moved
    ∙ sym (counted_in k (all_picked other others))) in
    subst (λ l. IsPermutation l (numberless other others)) (ap (map pick_value) (sym (entries_seen one picks)))
    (subst (IsPermutation (map pick_value ps)) (ap (map pick_value) (sym (entries_seen other others))) values)

untold_by : (one other : State) (before after : Answer) (plan : List Pick) → HaveSamePicks one before other after → before ≡ Plan plan → answer_changes one other before after ≡ []
untold_by one other (Plan picks) (Plan others) plan same is = answers_same one other (Plan picks) (Plan others) (numberless_moved one other picks others same)
untold_by one other (Plan picks) (Fault number code) plan same is = absurd same
untold_by one other (Fault number code) (Plan others) plan same is = absurd same
untold_by one other (Fault number code) (Fault id why) plan same is = absurd cc

pub plan_untold : (one other : State) (plan : List Pick) → PickSame one other → answer one ≡ Plan plan → answer_changes one other (answer one) (answer other) ≡ []
plan_untold one other plan same is = untold_by one other (answer one) (answer other) plan same is

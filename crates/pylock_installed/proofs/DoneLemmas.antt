-- Nothing is left to do exactly where the environment has what the plan says.
use Rattle.std.proofs.Common.{◌≡◌, ◌∙◌, Bool, true, false, not, ◌&&◌, cond, List, [], ◌∷◌, filter, map, Option, Some, None, refl, sym, inl, inr}
use Rattle.std.specs.List.{AllByRecursion, flat_map, list_all}
use Rattle.std.specs.Option.{IfSome, option_map_or}
use Rattle.std.proofs.lemmas.Bool.{and_parts, false≢true}
use Rattle.std.proofs.lemmas.List.Folds.{list_all-append}
use Rattle.pylock_readers.specs.Entry.{EntryValue}
use Rattle.pylock_core.specs.Session.State.{State, entry_at}
use Rattle.pylock_core.specs.declared.answer.Pick.{Pick}
use Rattle.pylock_installed.specs.Done.{HasPlan, IsInstalled, MayStay}
use Rattle.pylock_installed.specs.Picked.{is_picked}
use Rattle.pylock_installed.specs.Project.{ProjectValue, project_named}
use Rattle.pylock_installed.specs.Steps.{Keep, Remove, Replace, is_done, is_keep, is_planned, is_tool, other_step, pick_steps, step_for, steps}

and_both : (a b : Bool) → a ≡ true → b ≡ true → (a && b) ≡ true
and_both a b one other = rw (one, other) refl

-- ---- a pick

-- the project of the entry's name is there, and is what is picked
abbrev IsFound : Pick → EntryValue → Option ProjectValue → Type 0
IsFound pick entry found = (project : ProjectValue) × (found ≡ Some project) × (is_picked entry pick.source project ≡ true)

keeps : (pick : Pick) (entry : EntryValue) (found : Option ProjectValue) → is_keep (step_for pick entry found) ≡ true → IsFound pick entry found
keeps pick entry None e = absurd (false≢true e)
keeps pick entry (Some project) e = by (is_picked entry pick.source project) refl e
  where
    by : (b : Bool) → is_picked entry pick.source project ≡ b → is_keep (cond b (Keep project) (Replace pick.id project)) ≡ true → IsFound pick entry (Some project)
    by true is e = (project, refl, is)
    by false is e = absurd (false≢true e)

is_kept : (pick : Pick) (entry : EntryValue) (found : Option ProjectValue) → IsFound pick entry found → is_keep (step_for pick entry found) ≡ true
is_kept pick entry found (project, is, picked) = rw (is, picked) refl

pick_told : (state : State) (installed : List ProjectValue) (pick : Pick) → list_all is_keep (pick_steps state installed pick) ≡ true → IsInstalled state installed pick
pick_told state installed pick done = by (entry_at pick.id state.entries) done
  where
    by : (e : Option EntryValue) → list_all is_keep (option_map_or (λ entry. step_for pick entry (project_named entry.name installed) ∷ []) e []) ≡ true
        → IfSome e (λ entry. IsFound pick entry (project_named entry.name installed))
    by None done = tt
    by (Some entry) done = keeps pick entry (project_named entry.name installed) (and_parts _ _ done).0

pick_same : (state : State) (installed : List ProjectValue) (pick : Pick) → IsInstalled state installed pick → list_all is_keep (pick_steps state installed pick) ≡ true
pick_same state installed pick there = by (entry_at pick.id state.entries) there
  where
    by : (e : Option EntryValue) → IfSome e (λ entry. IsFound pick entry (project_named entry.name installed))
        → list_all is_keep (option_map_or (λ entry. step_for pick entry (project_named entry.name installed) ∷ []) e []) ≡ true
    by None there = refl
    by (Some entry) there = and_both _ _ (is_kept pick entry (project_named entry.name installed) there) refl

picks_told : (state : State) (installed : List ProjectValue) (picks : List Pick) → list_all is_keep (flat_map (pick_steps state installed) picks) ≡ true
    → AllByRecursion (IsInstalled state installed) picks
picks_told state installed [] done = tt
picks_told state installed (pick ∷ picks) done =
    let both = and_parts _ _ (sym (list_all-append is_keep (pick_steps state installed pick) (flat_map (pick_steps state installed) picks)) ∙ done) in
    (pick_told state installed pick both.0, picks_told state installed picks both.1)

picks_same : (state : State) (installed : List ProjectValue) (picks : List Pick) → AllByRecursion (IsInstalled state installed) picks
    → list_all is_keep (flat_map (pick_steps state installed) picks) ≡ true
picks_same state installed [] there = refl
picks_same state installed (pick ∷ picks) there =
    list_all-append is_keep (pick_steps state installed pick) (flat_map (pick_steps state installed) picks)
    ∙ and_both _ _ (pick_same state installed pick there.0) (picks_same state installed picks there.1)

-- ---- the other projects

tool_told : (is_exact : Bool) (project : ProjectValue) → is_keep (other_step is_exact project) ≡ true → (is_exact ≡ false) × (is_tool project ≡ true)
tool_told true project e = absurd (false≢true e)
tool_told false project e = by (is_tool project) refl e
  where
    by : (b : Bool) → is_tool project ≡ b → is_keep (cond b (Keep project) (Remove project)) ≡ true → (false ≡ false) × (is_tool project ≡ true)
    by true is e = (refl, is)
    by false is e = absurd (false≢true e)

tool_same : (is_exact : Bool) (project : ProjectValue) → is_exact ≡ false → is_tool project ≡ true → is_keep (other_step is_exact project) ≡ true
tool_same is_exact project not_exact tool = rw (not_exact, tool) refl

others_told : (state : State) (picks : List Pick) (is_exact : Bool) (projects : List ProjectValue)
    → list_all is_keep (map (other_step is_exact) (filter (λ p. not (is_planned state picks p)) projects)) ≡ true
    → AllByRecursion (MayStay state picks is_exact) projects
others_told state picks is_exact [] done = tt
others_told state picks is_exact (p ∷ ps) done = by (is_planned state picks p) refl done (others_told state picks is_exact ps)
  where
    by : (b : Bool) → is_planned state picks p ≡ b
        → list_all is_keep (map (other_step is_exact) (cond (not b) (p ∷ filter (λ p. not (is_planned state picks p)) ps) (filter (λ p. not (is_planned state picks p)) ps))) ≡ true
        → (list_all is_keep (map (other_step is_exact) (filter (λ p. not (is_planned state picks p)) ps)) ≡ true → AllByRecursion (MayStay state picks is_exact) ps)
        → MayStay state picks is_exact p × AllByRecursion (MayStay state picks is_exact) ps
    by true is done more = (inl is, more done)
    by false is done more =
        let both = and_parts (is_keep (other_step is_exact p)) _ done in
        (inr (tool_told is_exact p both.0), more both.1)

others_same : (state : State) (picks : List Pick) (is_exact : Bool) (projects : List ProjectValue) → AllByRecursion (MayStay state picks is_exact) projects
    → list_all is_keep (map (other_step is_exact) (filter (λ p. not (is_planned state picks p)) projects)) ≡ true
others_same state picks is_exact [] there = refl
others_same state picks is_exact (p ∷ ps) there = by (is_planned state picks p) refl there.0 (others_same state picks is_exact ps there.1)
  where
    by : (b : Bool) → is_planned state picks p ≡ b → MayStay state picks is_exact p → list_all is_keep (map (other_step is_exact) (filter (λ p. not (is_planned state picks p)) ps)) ≡ true
        → list_all is_keep (map (other_step is_exact) (cond (not b) (p ∷ filter (λ p. not (is_planned state picks p)) ps) (filter (λ p. not (is_planned state picks p)) ps))) ≡ true
    by true is stays rest = rest
    by false is (inl planned) rest = absurd (false≢true (sym is ∙ planned))
    by false is (inr tool) rest = and_both _ _ (tool_same is_exact p tool.0 tool.1) rest

-- ---- both

pub done_told : (state : State) (picks : List Pick) (installed : List ProjectValue) (is_exact : Bool) → is_done (steps state picks installed is_exact) ≡ true
    → HasPlan state picks installed is_exact
unfolding steps
done_told state picks installed is_exact done =
    let both = and_parts _ _ (sym (list_all-append is_keep (flat_map (pick_steps state installed) picks) _) ∙ done) in
    (picks_told state installed picks both.0, others_told state picks is_exact installed both.1)

pub done_same : (state : State) (picks : List Pick) (installed : List ProjectValue) (is_exact : Bool) → HasPlan state picks installed is_exact
    → is_done (steps state picks installed is_exact) ≡ true
unfolding steps
done_same state picks installed is_exact there =
    list_all-append is_keep (flat_map (pick_steps state installed) picks) _
    ∙ and_both _ _ (picks_same state installed picks there.0) (others_same state picks is_exact installed there.1)

pub ruleset done = (done_told, done_same)

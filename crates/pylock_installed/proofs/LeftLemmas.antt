-- After the steps nothing is left to do.
use Rattle.std.proofs.Common.{◌≡◌, ◌∙◌, ◌⊎◌, ℕ, Bool, true, false, ◌||◌, cond, List, [], ◌∷◌, ◌++◌, filter, map, not, Option, Some, None, refl, sym, ap, subst, inl, inr, append_assoc}
use Rattle.std.specs.List.{AllByRecursion, IsDistinct, flat_map}
use Rattle.std.specs.Option.{IfSome, option_map_or}
use Rattle.std.specs.Str.{bytes_eq}
use Rattle.std.proofs.lemmas.Bool.{false≢true}
use Rattle.std.proofs.lemmas.Grind.{flat_map-append}
use Rattle.std.proofs.lemmas.Slice.Eq.{bytes_eq-Decides}
use Rattle.pylock_readers.specs.Entry.{EntryValue}
use Rattle.pylock_core.specs.Session.State.{State, entry_at}
use Rattle.pylock_core.specs.declared.answer.Pick.{Pick}
use Rattle.pylock_installed.specs.Done.{HasOneOfEach, HasPlan, IsInstalled, IsMade, MayStay, after_steps, left_by, pick_names}
use Rattle.pylock_installed.specs.Picked.{is_picked}
use Rattle.pylock_installed.specs.Project.{ProjectValue, is_named, project_named}
use Rattle.pylock_installed.specs.Steps.{Keep, Remove, Replace, is_done, is_pick_of, is_planned, is_tool, other_step, pick_steps, step_for, steps}
use Rattle.pylock_installed.proofs.DoneLemmas.{done_same}

-- ---- lists and names

all_append : {X : Type 0} (P : X → Type 0) (xs ys : List X) → AllByRecursion P xs → AllByRecursion P ys → AllByRecursion P (xs ++ ys)
all_append P [] ys all more = more
all_append P (x ∷ xs) ys all more = (all.0, all_append P xs ys all.1 more)

all_so : {X : Type 0} (P Q : X → Type 0) → ((x : X) → P x → Q x) → (xs : List X) → AllByRecursion P xs → AllByRecursion Q xs
all_so P Q so [] all = tt
all_so P Q so (x ∷ xs) all = (so x all.0, all_so P Q so xs all.1)

or_right : (a b : Bool) → b ≡ true → (a || b) ≡ true
or_right true b e = refl
or_right false b e = e

or_left : (a b : Bool) → a ≡ true → (a || b) ≡ true
or_left a b e = rw e refl

found_named : (name : List ℕ) (projects : List ProjectValue) (project : ProjectValue) → project_named name projects ≡ Some project → is_named name project ≡ true
found_named name [] project e = absurd cc
found_named name (p ∷ ps) project e = by (is_named name p) refl e (found_named name ps project)
  where
    by : (b : Bool) → is_named name p ≡ b → cond b (Some p) (project_named name ps) ≡ Some project
        → (project_named name ps ≡ Some project → is_named name project ≡ true) → is_named name project ≡ true
    by true is e later = let same : p ≡ project = cc in ap (is_named name) (sym same) ∙ is
    by false is e later = later e

-- a project has one name
not_named : (name other : List ℕ) (project : ProjectValue) → is_named name project ≡ true → bytes_eq name other ≡ false → is_named other project ≡ false
not_named name other project named apart = by (is_named other project) refl
  where
    by : (b : Bool) → is_named other project ≡ b → is_named other project ≡ false
    by false is = is
    by true is =
        let same : name ≡ other = (bytes_eq-Decides name project.name).0 named ∙ sym ((bytes_eq-Decides other project.name).0 is) in
        absurd (false≢true (sym apart ∙ (bytes_eq-Decides name other).1 same))

-- ---- what the step of a pick leaves

-- of an entry, the one project that is picked
record IsLeft (pick : Pick) (entry : EntryValue) (projects : List ProjectValue) : Type 0 where
  project : ProjectValue
  is : projects ≡ project ∷ []
  named : is_named entry.name project ≡ true
  picked : is_picked entry pick.source project ≡ true

abbrev IsMadeOf : (made : ℕ → ProjectValue) → Pick → EntryValue → Type 0
IsMadeOf made pick entry = (is_named entry.name (made pick.id) ≡ true) × (is_picked entry pick.source (made pick.id) ≡ true)

step_leaves : (made : ℕ → ProjectValue) (pick : Pick) (entry : EntryValue) (installed : List ProjectValue) → IsMadeOf made pick entry
    → IsLeft pick entry (flat_map (left_by made) (step_for pick entry (project_named entry.name installed) ∷ []))
step_leaves made pick entry installed makes = by (project_named entry.name installed) refl
  where
    by : (found : Option ProjectValue) → project_named entry.name installed ≡ found → IsLeft pick entry (flat_map (left_by made) (step_for pick entry found ∷ []))
    by None is = record { project = made pick.id; is = refl; named = makes.0; picked = makes.1 }
    by (Some project) is = with_test (is_picked entry pick.source project) refl
      where
        with_test : (b : Bool) → is_picked entry pick.source project ≡ b
            → IsLeft pick entry (flat_map (left_by made) (cond b (Keep project) (Replace pick.id project) ∷ []))
        with_test true picked = record { project = project; is = refl; named = found_named entry.name installed project is; picked = picked }
        with_test false other = record { project = made pick.id; is = refl; named = makes.0; picked = makes.1 }

-- a pick whose number is no entry's leaves nothing
abbrev PickLeaves : State → (made : ℕ → ProjectValue) → List ProjectValue → Pick → Type 0
PickLeaves state made installed pick =
    ((entry_at pick.id state.entries ≡ None) × (flat_map (left_by made) (pick_steps state installed pick) ≡ []))
    ⊎ ((entry : EntryValue) × (entry_at pick.id state.entries ≡ Some entry) × IsLeft pick entry (flat_map (left_by made) (pick_steps state installed pick)))

pick_leaves : (state : State) (made : ℕ → ProjectValue) (installed : List ProjectValue) (pick : Pick) → IsMade state made pick → PickLeaves state made installed pick
pick_leaves state made installed pick makes = by (entry_at pick.id state.entries) refl makes
  where
    by : (e : Option EntryValue) → entry_at pick.id state.entries ≡ e → IfSome e (IsMadeOf made pick)
        → ((e ≡ None) × (flat_map (left_by made) (option_map_or (λ entry. step_for pick entry (project_named entry.name installed) ∷ []) e []) ≡ []))
        ⊎ ((entry : EntryValue) × (e ≡ Some entry) × IsLeft pick entry (flat_map (left_by made) (option_map_or (λ entry. step_for pick entry (project_named entry.name installed) ∷ []) e [])))
    by None is makes = inl (refl, refl)
    by (Some entry) is makes = inr (entry, refl, step_leaves made pick entry installed makes)

-- ---- the entries are installed

-- the project of the entry's name is there, and is what is picked
abbrev Found : Pick → List ProjectValue → EntryValue → Type 0
Found pick projects entry = (project : ProjectValue) × (project_named entry.name projects ≡ Some project) × (is_picked entry pick.source project ≡ true)

-- what is installed stays so behind a project of another name
still_there : (state : State) (name : List ℕ) (first : ProjectValue) (later : List ProjectValue) → is_named name first ≡ true → (picks : List Pick)
    → AllByRecursion (λ y. bytes_eq name y ≡ false) (flat_map (pick_names state) picks) → AllByRecursion (IsInstalled state later) picks
    → AllByRecursion (IsInstalled state (first ∷ later)) picks
still_there state name first later named [] apart there = tt
still_there state name first later named (pick ∷ picks) apart there =
    let here = by (entry_at pick.id state.entries) apart there.0 in
    (here.0, still_there state name first later named picks here.1 there.1)
  where
    by : (e : Option EntryValue) → AllByRecursion (λ y. bytes_eq name y ≡ false) (option_map_or (λ entry. entry.name ∷ []) e [] ++ flat_map (pick_names state) picks)
        → IfSome e (Found pick later) → IfSome e (Found pick (first ∷ later)) × AllByRecursion (λ y. bytes_eq name y ≡ false) (flat_map (pick_names state) picks)
    by None apart there = (tt, apart)
    by (Some entry) apart (project, is, picked) =
        ((project, ap (λ b. cond b (Some first) (project_named entry.name later)) (not_named name entry.name first named apart.0) ∙ is, picked), apart.1)

-- the projects that the steps of picks leave
abbrev left_of : State → (made : ℕ → ProjectValue) → List ProjectValue → List Pick → List ProjectValue
left_of state made installed picks = flat_map (left_by made) (flat_map (pick_steps state installed) picks)

one_more : (state : State) (made : ℕ → ProjectValue) (installed : List ProjectValue) (pick : Pick) (picks : List Pick)
    → left_of state made installed (pick ∷ picks) ≡ flat_map (left_by made) (pick_steps state installed pick) ++ left_of state made installed picks
one_more state made installed pick picks = flat_map-append (left_by made) (pick_steps state installed pick) (flat_map (pick_steps state installed) picks)

abbrev front_of : State → (made : ℕ → ProjectValue) → List ProjectValue → Pick → List ProjectValue
front_of state made installed pick = flat_map (left_by made) (pick_steps state installed pick)

whole : (state : State) (made : ℕ → ProjectValue) (installed rest : List ProjectValue) (pick : Pick) (picks : List Pick)
    → left_of state made installed (pick ∷ picks) ++ rest ≡ front_of state made installed pick ++ (left_of state made installed picks ++ rest)
whole state made installed rest pick picks =
    ap (λ l. l ++ rest) (one_more state made installed pick picks) ∙ append_assoc (front_of state made installed pick) (left_of state made installed picks) rest

-- the names of the entries, the first of them this one's
abbrev names_with : State → List Pick → Option EntryValue → List (List ℕ)
names_with state picks e = option_map_or (λ entry. entry.name ∷ []) e [] ++ flat_map (pick_names state) picks

entries_there : (state : State) (made : ℕ → ProjectValue) (installed rest : List ProjectValue) (picks : List Pick) → HasOneOfEach state picks
    → AllByRecursion (IsMade state made) picks → AllByRecursion (IsInstalled state (left_of state made installed picks ++ rest)) picks
unfolding IsDistinct
entries_there state made installed rest [] distinct makes = tt
entries_there state made installed rest (pick ∷ picks) distinct makes =
    subst (λ projects. AllByRecursion (IsInstalled state projects) (pick ∷ picks)) (sym (whole state made installed rest pick picks))
    (by (pick_leaves state made installed pick makes.0) (λ apart. entries_there state made installed rest picks apart makes.1))
  where
    by : PickLeaves state made installed pick
        → (HasOneOfEach state picks → AllByRecursion (IsInstalled state (left_of state made installed picks ++ rest)) picks)
        → AllByRecursion (IsInstalled state (front_of state made installed pick ++ (left_of state made installed picks ++ rest))) (pick ∷ picks)
    by (inl (none, nothing)) more =
        let later = left_of state made installed picks ++ rest in
        let tail = more (subst (λ e. IsDistinct bytes_eq (names_with state picks e)) none distinct) in
        subst (λ front. AllByRecursion (IsInstalled state (front ++ later)) (pick ∷ picks)) (sym nothing)
        (subst (λ e. IfSome e (Found pick later)) (sym none) tt, tail)
    by (inr (entry, is, left)) more =
        let later = left_of state made installed picks ++ rest in
        let apart = subst (λ e. IsDistinct bytes_eq (names_with state picks e)) is distinct in
        let tail = more apart.1 in
        subst (λ front. AllByRecursion (IsInstalled state (front ++ later)) (pick ∷ picks)) (sym left.is) (
          subst (λ e. IfSome e (Found pick (left.project ∷ later))) (sym is)
              (left.project, ap (λ b. cond b (Some left.project) (project_named entry.name later)) left.named, left.picked),
          still_there state entry.name left.project later left.named picks apart.0 tail,
        )

-- ---- nothing else is there but what may stay

planned_left : (state : State) (made : ℕ → ProjectValue) (installed : List ProjectValue) (picks : List Pick) → AllByRecursion (IsMade state made) picks
    → AllByRecursion (λ project. is_planned state picks project ≡ true) (left_of state made installed picks)
planned_left state made installed [] makes = tt
planned_left state made installed (pick ∷ picks) makes =
    let tail = all_so (λ p. is_planned state picks p ≡ true) (λ p. is_planned state (pick ∷ picks) p ≡ true)
    (λ p planned. or_right (is_pick_of state p pick) (is_planned state picks p) planned) _ (planned_left state made installed picks makes.1) in
    subst (AllByRecursion (λ p. is_planned state (pick ∷ picks) p ≡ true)) (sym (one_more state made installed pick picks))
    (all_append _ (flat_map (left_by made) (pick_steps state installed pick)) _ (by (pick_leaves state made installed pick makes.0)) tail)
  where
    by : PickLeaves state made installed pick → AllByRecursion (λ p. is_planned state (pick ∷ picks) p ≡ true) (flat_map (left_by made) (pick_steps state installed pick))
    by (inl (none, nothing)) = subst (AllByRecursion (λ p. is_planned state (pick ∷ picks) p ≡ true)) (sym nothing) tt
    by (inr (entry, is, left)) =
        let here : is_pick_of state left.project pick ≡ true = ap (λ e. option_map_or (λ entry. is_named entry.name left.project) e false) is ∙ left.named in
        subst (AllByRecursion (λ p. is_planned state (pick ∷ picks) p ≡ true)) (sym left.is)
        (or_left (is_pick_of state left.project pick) (is_planned state picks left.project) here, tt)

others_left : (state : State) (made : ℕ → ProjectValue) (picks : List Pick) (is_exact : Bool) (projects : List ProjectValue)
    → AllByRecursion (MayStay state picks is_exact) (flat_map (left_by made) (map (other_step is_exact) projects))
others_left state made picks is_exact [] = tt
others_left state made picks is_exact (p ∷ ps) =
    all_append (MayStay state picks is_exact) (left_by made (other_step is_exact p)) _ (here is_exact) (others_left state made picks is_exact ps)
  where
    tool : (b : Bool) → is_tool p ≡ b → AllByRecursion (MayStay state picks false) (left_by made (cond b (Keep p) (Remove p)))
    tool true is = (inr (refl, is), tt)
    tool false is = tt

    here : (exact : Bool) → AllByRecursion (MayStay state picks exact) (left_by made (other_step exact p))
    here true = tt
    here false = tool (is_tool p) refl

-- ---- both

pub done_after : (state : State) (picks : List Pick) (installed : List ProjectValue) (made : ℕ → ProjectValue) (is_exact : Bool) → HasOneOfEach state picks
    → AllByRecursion (IsMade state made) picks → is_done (steps state picks (after_steps made (steps state picks installed is_exact)) is_exact) ≡ true
unfolding steps
done_after state picks installed made is_exact distinct makes =
    let others = filter (λ p. not (is_planned state picks p)) installed in
    let rest = flat_map (left_by made) (map (other_step is_exact) others) in
    let here = flat_map (left_by made) (flat_map (pick_steps state installed) picks) in
    let may_stay = all_append (MayStay state picks is_exact) here rest
    (all_so (λ p. is_planned state picks p ≡ true) (MayStay state picks is_exact) (λ p planned. inl planned) here (planned_left state made installed picks makes))
    (others_left state made picks is_exact others) in
    done_same state picks _ is_exact
    (subst (λ projects. HasPlan state picks projects is_exact)
    (sym (flat_map-append (left_by made) (flat_map (pick_steps state installed) picks) (map (other_step is_exact) others)))
    (entries_there state made installed rest picks distinct makes, may_stay))
